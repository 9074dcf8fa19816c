-- `attempt` offers the candidate.
use Rattle.nearest_laws.specs.Walk.{trial}
use Rattle.walk.specs.Code.{trial_of}
use Rattle.walk.proofs.Best.attempt.Goals as goal

pub returns : goal.returns
unfolding trial
returns c p e =
    let x = c.args in
    rw c.sub.ensures at (c.offer.ensures p.target.0 (trial_of p x.at x.top.0).points e)
