-- `closest::Play::missing_weights`, by the test of all 32 presence numbers. Assumes nothing.
use Rattle.closest_laws.proofs.Bits.{two_places, two_weights}
use Rattle.closest.proofs.Play.missing_weights.Goals as goal

pub overflow_sub-lighter : goal.overflow_sub-lighter
overflow_sub-lighter c = (two_places c.args.self.presence 0 0 0 0 0 c.requires).2

pub bounds-weights-heavier : goal.bounds-weights-heavier
bounds-weights-heavier c = (two_places c.args.self.presence 0 0 0 0 0 c.requires).1

pub bounds-weights-lighter : goal.bounds-weights-lighter
bounds-weights-lighter c = (two_places c.args.self.presence 0 0 0 0 0 c.requires).3

pub returns : goal.returns
returns c =
    let p = c.args.self in
    two_weights p.presence p.counts.n320 p.counts.n300 p.counts.n200 p.counts.n100 p.counts.n50 c.requires p.w320 60 40 20 10
