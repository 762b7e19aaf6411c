-- What a check comes to by the rules, reckoned on one variable's domain and without a store. Tools: the checks say nothing of this.
-- Assumes nothing.
use Rattle.std.specs.Prelude.{true, false, Ok, Err}
use Prim.Native.Nat.{ℕ, suc, ◌+◌, ◌-◌}
use mathlib.Core.List.{List, [], ◌∷◌, foldl}
use lib.IntN.{ℤ, pos}
use lib.Dec.{leb}
use Rattle.domains.specs.declared.Bounds.{Bounds}
use Rattle.domains.specs.Choice.{pick}
use Rattle.domains.specs.Domain.{Domain, emptied, acts, overflows, moved, pruned_by}
use Rattle.stories.specs.declared.Refusal.TheVariants.{TrailFull, StepOverflow, Empty}
use Rattle.stories.specs.Calls.{span_of, missing}
use Rattle.bench.specs.Seen.{Seen, Start, Post, Line, line}

-- ---- creating

-- a dense variable, where there are so many variables and entries and the count is this: two entries, and the second is the mark
abbrev pub dense_after : Bounds → ℕ → ℕ → ℕ → Seen
dense_after b variables entries count = record {
  variables = suc variables;
  checkpoint = 0;
  domain = record { lower = b.lower; upper = b.upper; holes = [] };
  mark = suc entries;
  entries = suc (suc entries);
  count = count;
}

-- a missing value is removed: a hole, an entry and one pruned value
abbrev pub without : Seen → ℤ → Seen
without w v = record {
  variables = w.variables;
  checkpoint = w.checkpoint;
  domain = record { lower = w.domain.lower; upper = w.domain.upper; holes = v ∷ w.domain.holes };
  mark = w.mark;
  entries = suc w.entries;
  count = w.count + 1;
}

-- the mark is put at the last entry
abbrev pub remarked : Seen → Seen
remarked w = record {
  variables = w.variables;
  checkpoint = w.checkpoint;
  domain = w.domain;
  mark = w.entries - 1;
  entries = w.entries;
  count = w.count;
}

-- a variable from a list: dense from the smallest to the largest, without what is missing
abbrev pub list_after : List ℤ → ℕ → ℕ → ℕ → Seen
list_after vs variables entries count = remarked (foldl without (dense_after (span_of vs) variables entries count) (missing vs))

-- what is seen first: of a fresh store, which has one variable, 2 entries and count 0, and of a variable more
abbrev pub begins : Start → Seen
begins Start.fresh = dense_after (record { lower = pos 1; upper = pos 1 }) 0 0 0
begins (Start.dense b) = dense_after b 1 2 0
begins (Start.list vs) = list_after vs 1 2 0

-- ---- posts

-- the bounds alone
abbrev pub bounds_of : Domain → Bounds
bounds_of d = record { lower = d.lower; upper = d.upper }

-- a post makes one entry
abbrev pub entered : Seen → Post → Seen
entered w p =
    let to : Domain = moved p.kind p.value w.domain in
    record {
      variables = w.variables;
      checkpoint = w.checkpoint;
      domain = to;
      mark = w.mark;
      entries = suc w.entries;
      count = w.count + pruned_by p.kind (bounds_of w.domain) (bounds_of to);
    }

-- what a post comes to: nothing (unchanged, or 7 on an empty domain), 5, 6, or an entry (changed, or 7 if nothing is left)
abbrev pub comes : Seen → Post → Line
comes w p =
    let d : Domain = w.domain in
    pick (acts p.kind p.value d)
    (pick (leb 1024 w.entries) (line p (Err TrailFull) w)
    (pick (overflows p.kind p.value d) (line p (Err StepOverflow) w)
    (line p (pick (emptied (moved p.kind p.value d)) (Err Empty) (Ok true)) (entered w p))))
    (line p (pick (emptied d) (Err Empty) (Ok false)) w)

-- posts one after another
abbrev pub run : Seen → List Post → List Line
run w [] = []
run w (p ∷ ps) = comes w p ∷ run (comes w p).sight ps
