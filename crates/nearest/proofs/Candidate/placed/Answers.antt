-- `placed` puts each count at its place.
use Rattle.nearest_laws.specs.Places.{places}
use Rattle.nearest.proofs.Candidate.placed.Goals as goal

pub returns : goal.returns
unfolding places
returns c =
    rw (
      c.place.ensures,
      c.place-2.ensures,
      c.place-3.ensures,
      c.place-4.ensures,
      c.place-5.ensures,
      c.given-n320.ensures,
      c.given-n300.ensures,
      c.given-n200.ensures,
      c.given-n100.ensures,
      c.given-n50.ensures,
    )
