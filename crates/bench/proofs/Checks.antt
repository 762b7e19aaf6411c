-- Every check of the table holds of the store: a store shows what the rules come to (Lift.antt), and that is computed, for the whole table
-- at once.
use Prim.Native.Nat.{◌<◌}
use mathlib.Core.Bool.{Bool, true, ◌&&◌}
use mathlib.Core.Path.{◌≡◌, refl, ap, ◌∙◌}
use mathlib.Core.List.{List, [], ◌∷◌, map}
use native.Mathlib.Omega.{arith}
use Rattle.integers.specs.Distance.{distance}
use Rattle.domains.specs.Domain.{step_up, raised, lowered, moved, pruned_by}
use Rattle.domains.proofs.Tests.{both}
use Rattle.stories.specs.Calls.{unlisted}
use Rattle.bench.specs.Seen.{Seen, Post, shown, begun, looked}
use Rattle.bench.proofs.Run.{begins, run}
use Rattle.bench.proofs.Lift.{is_i32, every, sound, run_law, start_law}
use Rattle.bench.specs.Table.{Check, posts_of, Holds, Each, table}

-- the check as the rules have it
foretold : Check → Check
foretold c = record { letter = c.letter; start = c.start; sight = begins c.start; lines = run (begins c.start) (posts_of c.lines) }

-- its creation is not refused, and its posts are of i32
fair : Check → Bool
fair c = sound c.start && every (λ (p : Post). is_i32 p.value) (posts_of c.lines)

-- such a check, if it is as the rules have it
holds : (c : Check) → fair c ≡ true → foretold c ≡ c → Holds c
unfolding fair foretold shown
holds c f e =
    let b = both (sound c.start) _ f in
    let s = start_law c.start b.0 in
    let there : looked c.start < (begun c.start).domains = omega (arith, s.there, ap (λ (w : Seen). w.variables) s.shows) in
    record {
      variable = s.variable;
      sight = s.shows ∙ ap (λ (d : Check). d.sight) e;
      lines =
          run_law (begun c.start) s.made (looked c.start) there (posts_of c.lines) b.1
          ∙ ap (λ (w : Seen). run w (posts_of c.lines)) s.shows
          ∙ ap (λ (d : Check). d.lines) e;
    }

-- and so every one of a list
each_holds : (cs : List Check) → every fair cs ≡ true → map foretold cs ≡ cs → Each Holds cs
each_holds [] f e = tt
each_holds (c ∷ cs) f e = let b = both (fair c) _ f in (holds c b.0 (cc), each_holds cs b.1 (cc))

-- every check of the table holds
pub checks : Each Holds table
unfolding fair foretold moved raised lowered step_up pruned_by distance unlisted
checks = each_holds table refl refl
