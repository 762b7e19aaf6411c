-- How the store keeps what happened: an entry recorded, an entry undone, a variable laid down, a checkpoint opened. No rule of the
-- store is said here, only where things stand; undoing blanks what it frees, so that it gives back the very store. Assumes nothing.
use Rattle.std.specs.Prelude.{ℕ, zero, suc, ◌+◌, ◌-◌, Bool, not, List, ℤ, pos, get_or, set, replicate}
use Rattle.integers.specs.Integers.{eq_z}
use Rattle.predicates.specs.declared.Predicate.{Predicate}
use Rattle.predicates.specs.declared.Reason.{Reason}
use Rattle.domains.specs.declared.Bounds.{Bounds}
use Rattle.domains.specs.Choice.{pick}
use Rattle.domains.specs.Domain.{Domain, is_not_equal, pruned_by}
use Rattle.stories.specs.Story.{no_entry}
use Rattle.pools.specs.declared.Update.{Update}
use Rattle.pools.specs.declared.Pool.{Pool}
use Rattle.pools.specs.Chain.{no_update, no_updates, chain_of, values_of}
use Rattle.stories.specs.declared.Entry.{Entry}
use Rattle.stores.specs.declared.Trail.{Trail}
use Rattle.stores.specs.declared.Variable.{Variable}
use Rattle.stores.specs.declared.Assignments.{Assignments}

-- blank places
abbrev pub no_variable : Variable
no_variable = record {
  bounds = record { lower = pos 0; upper = pos 0 };
  initial = record { lower = pos 0; upper = pos 0 };
  lower = 0;
  upper = 0;
  holes = 0;
  mark = record { 0 = 0 };
}

-- a store without any variable
unfoldable pub bare : Assignments
bare = record {
  trail = record { entries = replicate 1024 no_entry; length = 0 };
  lower = no_updates;
  upper = no_updates;
  holes = no_updates;
  variables = replicate 256 no_variable;
  domains = 0;
  delimiters = replicate 256 0;
  checkpoint = 0;
  pruned = 0;
}

-- ---- reading

-- what is kept of variable x
abbrev pub variable_of : Assignments → ℕ → Variable
variable_of s x = get_or s.variables x no_variable

-- its lower updates, its upper updates and its holes, newest first
abbrev pub lowers_of : Assignments → ℕ → List Update
lowers_of s x = chain_of s.lower.updates (variable_of s x).lower

abbrev pub uppers_of : Assignments → ℕ → List Update
uppers_of s x = chain_of s.upper.updates (variable_of s x).upper

abbrev pub holes_of : Assignments → ℕ → List Update
holes_of s x = chain_of s.holes.updates (variable_of s x).holes

-- its domain now
unfoldable pub domain_of : Assignments → ℕ → Domain
domain_of s x = record {
  lower = (variable_of s x).bounds.lower;
  upper = (variable_of s x).bounds.upper;
  holes = values_of (holes_of s x);
}

-- the entry at a position
abbrev pub entry_of : Assignments → ℕ → Entry
entry_of s n = get_or s.trail.entries n no_entry

-- ---- recording

-- a trail with one entry more
abbrev pub entered : Trail → Entry → Trail
entered t e = record { entries = set t.entries t.length e; length = suc t.length }

-- a pool with one update more, if there is one
abbrev pub push_if : Bool → Pool → Update → Pool
push_if b p u = pick b (record { updates = set p.updates p.length u; length = suc p.length }) p

-- the link to that update, or the link as it was
abbrev pub link_if : Bool → Pool → ℕ → ℕ
link_if b p old = pick b (suc p.length) old

-- an entry is recorded: its predicate with the bounds before, an update for each bound that moves, a hole for a not-equal, and the count
unfoldable pub recorded : Assignments → Predicate → Reason → Bool → Bool → Bounds → Assignments
recorded s p r lower_moves upper_moves to =
    let x : ℕ = p.domain.0 in
    let at : ℕ = s.trail.length in
    let was : Variable = variable_of s x in
    let removes : Bool = is_not_equal p.kind in
    record {
      trail = entered s.trail (record { predicate = p; old = was.bounds; reason = r });
      lower = push_if lower_moves s.lower (record { value = to.lower; position = record { 0 = at }; previous = was.lower });
      upper = push_if upper_moves s.upper (record { value = to.upper; position = record { 0 = at }; previous = was.upper });
      holes = push_if removes s.holes (record { value = p.value; position = record { 0 = at }; previous = was.holes });
      variables = set s.variables x (record {
        bounds = to;
        initial = was.initial;
        lower = link_if lower_moves s.lower was.lower;
        upper = link_if upper_moves s.upper was.upper;
        holes = link_if removes s.holes was.holes;
        mark = was.mark;
      });
      domains = s.domains;
      delimiters = s.delimiters;
      checkpoint = s.checkpoint;
      pruned = s.pruned + pruned_by p.kind was.bounds to;
    }

-- a bound moves where it is not what it was
abbrev pub differs : ℤ → ℤ → Bool
differs a b = not (eq_z a b)

-- ---- undoing

-- a pool without its newest update, if it is to go
abbrev pub pop_if : Bool → Pool → Pool
pop_if b p = pick b (record { updates = set p.updates (p.length - 1) no_update; length = p.length - 1 }) p

-- the link from that update on, or the link as it was
abbrev pub back_if : Bool → Pool → ℕ → ℕ
back_if b p link = pick b (get_or p.updates (p.length - 1) no_update).previous link

-- the newest entry e of variable `was` is undone
unfoldable pub undone_by : Assignments → Entry → Variable → Assignments
undone_by s e was =
    let n : ℕ = s.trail.length - 1 in
    let lower_moved : Bool = differs e.old.lower was.bounds.lower in
    let upper_moved : Bool = differs e.old.upper was.bounds.upper in
    let removed : Bool = is_not_equal e.predicate.kind in
    record {
      trail = record { entries = set s.trail.entries n no_entry; length = n };
      lower = pop_if lower_moved s.lower;
      upper = pop_if upper_moved s.upper;
      holes = pop_if removed s.holes;
      variables = set s.variables e.predicate.domain.0 (record {
        bounds = e.old;
        initial = was.initial;
        lower = back_if lower_moved s.lower was.lower;
        upper = back_if upper_moved s.upper was.upper;
        holes = back_if removed s.holes was.holes;
        mark = was.mark;
      });
      domains = s.domains;
      delimiters = s.delimiters;
      checkpoint = s.checkpoint;
      pruned = s.pruned - pruned_by e.predicate.kind e.old was.bounds;
    }

-- the newest entry, and its variable
abbrev pub newest : Assignments → Entry
newest s = entry_of s (s.trail.length - 1)

abbrev pub changed_by : Assignments → Entry → Variable
changed_by s e = variable_of s e.predicate.domain.0

-- the newest entry is undone
abbrev pub undone : Assignments → Assignments
undone s = undone_by s (newest s) (changed_by s (newest s))

-- n entries are undone, newest first
unfoldable pub undone_all : ℕ → Assignments → Assignments
undone_all zero s = s
undone_all (suc n) s = undone_all n (undone s)

-- ---- variables and checkpoints

-- a variable is laid down; `mark` is the position at which its creation will end
unfoldable pub allocated : Assignments → Bounds → Assignments
allocated s b = record {
  trail = s.trail;
  lower = s.lower;
  upper = s.upper;
  holes = s.holes;
  variables = set s.variables s.domains (record { bounds = b; initial = b; lower = 0; upper = 0; holes = 0; mark = record { 0 = s.trail.length + 1 } });
  domains = suc s.domains;
  delimiters = s.delimiters;
  checkpoint = s.checkpoint;
  pruned = s.pruned;
}

-- its mark is put at the newest entry
unfoldable pub marked : Assignments → ℕ → Assignments
marked s x =
    let was : Variable = variable_of s x in
    record {
      trail = s.trail;
      lower = s.lower;
      upper = s.upper;
      holes = s.holes;
      variables = set s.variables x (record { bounds = was.bounds; initial = was.initial; lower = was.lower; upper = was.upper; holes = was.holes; mark = record { 0 = s.trail.length - 1 } });
      domains = s.domains;
      delimiters = s.delimiters;
      checkpoint = s.checkpoint;
      pruned = s.pruned;
    }

-- the store with other checkpoints
abbrev pub with_checkpoints : Assignments → List ℕ → ℕ → Assignments
with_checkpoints s ds c = record {
  trail = s.trail;
  lower = s.lower;
  upper = s.upper;
  holes = s.holes;
  variables = s.variables;
  domains = s.domains;
  delimiters = ds;
  checkpoint = c;
  pruned = s.pruned;
}

-- a checkpoint is opened
unfoldable pub opened : Assignments → Assignments
opened s = with_checkpoints s (set s.delimiters s.checkpoint s.trail.length) (suc s.checkpoint)

-- n delimiters from the k-th on are blank again
unfoldable pub cut : ℕ → List ℕ → ℕ → List ℕ
cut zero ds k = ds
cut (suc n) ds k = cut n (set ds (k + n) 0) k
