-- `Plays::query`: the chart is not over.
use Rattle.relay_laws.specs.Plays.{play_at}
use Rattle.relay_laws.proofs.Checked.{play_domain}
use Rattle.relay_plays.proofs.Plays.query.Goals as goal

pub returns-clause-domain : goal.returns-clause-domain
returns-clause-domain c =
    let p = c.args.self in
    rw c.play_query.ensures (play_domain p.classic (play_at p.numbers.now c.args.k) (p.playable c.args.k c.requires))
