-- Stores made step by step without going back, and how such a store is kept in order: what is past a length is blank, no link leads past
-- its pool, no delimiter past the trail. Each step keeps that order because it writes one place past the end and counts it.
use Prim.Native.Nat.{ℕ, zero, suc, ◌≤◌, ◌<◌}
use mathlib.Core.Bool.{Bool, true, false}
use mathlib.Core.Path.{◌≡◌, refl, ◌∙◌}
use mathlib.Core.List.{List, [], ◌∷◌}
use lib.ListN.{length, get_or, set, length-set, replicate, length-replicate}
use lib.Seq.{get_or-set_same, get_or-set_other}
use lib.Dec.{ltb}
use lib.Signed.{◌≤ℤ◌}
use borrow.Author.Tests.{ltb-true, ltb-false}
use native.Mathlib.Omega.{arith}
use Rattle.predicates.specs.declared.Predicate.{Predicate}
use Rattle.predicates.specs.declared.Reason.{Reason}
use Rattle.domains.specs.declared.Bounds.{Bounds}
use Rattle.domains.specs.Choice.{pick}
use Rattle.domains.specs.Domain.{Domain, is_not_equal, after}
use Rattle.pools.specs.declared.Update.{Update}
use Rattle.pools.specs.declared.Pool.{Pool}
use Rattle.pools.specs.Chain.{no_update, no_updates}
use Rattle.stories.specs.declared.Entry.{Entry}
use Rattle.stores.specs.declared.Variable.{Variable}
use Rattle.stores.specs.declared.Assignments.{Assignments}
use Rattle.stores.specs.Made.{AreI32}
use Rattle.stories.specs.Story.{no_entry}
use Rattle.stores.specs.Store.{no_variable, bare, variable_of, domain_of, entry_of, push_if, link_if, differs, recorded, allocated, marked, opened}

-- ---- the steps

-- the domain with these bounds, and with the predicate's value as a hole if it is a not-equal
abbrev pub domain_with : Predicate → Bounds → Domain → Domain
domain_with p to d = record { lower = to.lower; upper = to.upper; holes = pick (is_not_equal p.kind) (p.value ∷ d.holes) d.holes }

-- an entry may be recorded: there are variable and room, the domain becomes what the rules say, a bound with no update keeps its value,
-- and above the root an update is made exactly where a bound moves
pub record Records (s : Assignments) (p : Predicate) (lower_moves upper_moves : Bool) (to : Bounds) : Type 0 where
  pub there : p.domain.0 < s.domains
  pub room : s.trail.length < 1024
  pub i32 : AreI32 to
  pub rule : domain_with p to (domain_of s p.domain.0) ≡ after p.kind p.value (domain_of s p.domain.0)
  pub keeps_lower : lower_moves ≡ false → to.lower ≡ (variable_of s p.domain.0).bounds.lower
  pub keeps_upper : upper_moves ≡ false → to.upper ≡ (variable_of s p.domain.0).bounds.upper
  pub lower_update : 0 < s.checkpoint → lower_moves ≡ differs (variable_of s p.domain.0).bounds.lower to.lower
  pub upper_update : 0 < s.checkpoint → upper_moves ≡ differs (variable_of s p.domain.0).bounds.upper to.upper

-- a store made step by step, none of which goes back
pub data Straight : Assignments → Type 0 where
  none : Straight bare
  allocate : {s : Assignments} → Straight s → (b : Bounds) → AreI32 b → b.lower ≤ℤ b.upper → s.checkpoint ≡ 0 → s.domains < 256 → Straight (allocated s b)
  enter : {s : Assignments} → Straight s → (p : Predicate) (r : Reason) (lower_moves upper_moves : Bool) (to : Bounds) → Records s p lower_moves upper_moves to → Straight (recorded s p r lower_moves upper_moves to)
  mark : {s : Assignments} → Straight s → (x : ℕ) → s.checkpoint ≡ 0 → x < s.domains → Straight (marked s x)
  open_next : {s : Assignments} → Straight s → s.checkpoint < 256 → Straight (opened s)

-- ---- order

-- a pool in order, with at most n updates
pub record TidyPool (p : Pool) (n : ℕ) : Type 0 where
  pub long : length p.updates ≡ 1024
  pub short : p.length ≤ n
  pub blank : (i : ℕ) → p.length ≤ i → get_or p.updates i no_update ≡ no_update

-- a store in order
pub record Tidy (s : Assignments) : Type 0 where
  pub long_trail : length s.trail.entries ≡ 1024
  pub long_variables : length s.variables ≡ 256
  pub long_delimiters : length s.delimiters ≡ 256
  pub entries : s.trail.length ≤ 1024
  pub domains : s.domains ≤ 256
  pub checkpoints : s.checkpoint ≤ 256
  pub lower : TidyPool s.lower s.trail.length
  pub upper : TidyPool s.upper s.trail.length
  pub holes : TidyPool s.holes s.trail.length
  pub blank_trail : (i : ℕ) → s.trail.length ≤ i → entry_of s i ≡ no_entry
  pub blank_delimiters : (i : ℕ) → s.checkpoint ≤ i → get_or s.delimiters i 0 ≡ 0
  pub delimited : (i : ℕ) → i < s.checkpoint → get_or s.delimiters i 0 ≤ s.trail.length
  pub link_lower : (x : ℕ) → (variable_of s x).lower ≤ s.lower.length
  pub link_upper : (x : ℕ) → (variable_of s x).upper ≤ s.upper.length
  pub link_holes : (x : ℕ) → (variable_of s x).holes ≤ s.holes.length
  pub named : (i : ℕ) → i < s.trail.length → (entry_of s i).predicate.domain.0 < s.domains

blanks : {A : Type 0} (n i : ℕ) (a : A) → get_or (replicate n a) i a ≡ a
blanks zero i a = refl
blanks (suc n) zero a = refl
blanks (suc n) (suc i) a = blanks n i a

-- what stands at i after a store at j, whatever holds of both
pub at_set : {A : Type 0} (P : A → Type 0) (l : List A) (j i : ℕ) (a d : A) → P (get_or l i d) → P a → P (get_or (set l j a) i d)
at_set P [] j i a d h k = h
at_set P (x ∷ l) zero zero a d h k = k
at_set P (x ∷ l) zero (suc i) a d h k = h
at_set P (x ∷ l) (suc j) zero a d h k = h
at_set P (x ∷ l) (suc j) (suc i) a d h k = at_set P l j i a d h k

none_tidy : Tidy bare
unfolding bare no_updates
none_tidy = record {
  long_trail = length-replicate 1024 no_entry;
  long_variables = length-replicate 256 no_variable;
  long_delimiters = length-replicate {A = ℕ} 256 0;
  entries = omega arith;
  domains = omega arith;
  checkpoints = omega arith;
  lower = pool;
  upper = pool;
  holes = pool;
  blank_trail = λ i h. blanks 1024 i no_entry;
  blank_delimiters = λ i h. blanks {A = ℕ} 256 i 0;
  delimited = λ i h. absurd (omega arith);
  link_lower = λ x. rw (blanks 256 x no_variable) (omega arith);
  link_upper = λ x. rw (blanks 256 x no_variable) (omega arith);
  link_holes = λ x. rw (blanks 256 x no_variable) (omega arith);
  named = λ i h. absurd (omega arith);
}
  where
    pool : TidyPool (record { updates = replicate 1024 no_update; length = 0 }) 0
    pool = record { long = length-replicate 1024 no_update; short = omega arith; blank = λ i h. blanks 1024 i no_update }

push_tidy : (b : Bool) (p : Pool) (u : Update) (n : ℕ) → TidyPool p n → TidyPool (push_if b p u) (suc n)
push_tidy false p u n t = record { long = t.long; short = omega (arith, t.short); blank = t.blank }
push_tidy true p u n t = record {
  long = length-set p.updates p.length u ∙ t.long;
  short = omega (arith, t.short);
  blank = λ i h. get_or-set_other p.updates p.length i u no_update (omega arith) ∙ t.blank i (omega arith);
}

link_grows : (b : Bool) (p : Pool) (u : Update) (link : ℕ) → link ≤ p.length → link ≤ (push_if b p u).length
link_grows false p u link h = h
link_grows true p u link h = omega arith

link_fits : (b : Bool) (p : Pool) (u : Update) (old : ℕ) → old ≤ p.length → link_if b p old ≤ (push_if b p u).length
link_fits false p u old h = h
link_fits true p u old h = omega arith

enter_tidy : (s : Assignments) (p : Predicate) (r : Reason) (a b : Bool) (to : Bounds) → Tidy s → Records s p a b to → Tidy (recorded s p r a b to)
unfolding recorded
enter_tidy s p r a b to t m = record {
  long_trail = length-set s.trail.entries n e ∙ t.long_trail;
  long_variables = length-set s.variables p.domain.0 _ ∙ t.long_variables;
  long_delimiters = t.long_delimiters;
  entries = m.room;
  domains = t.domains;
  checkpoints = t.checkpoints;
  lower = push_tidy a s.lower _ n t.lower;
  upper = push_tidy b s.upper _ n t.upper;
  holes = push_tidy c s.holes _ n t.holes;
  blank_trail = λ i h. get_or-set_other s.trail.entries n i e no_entry (omega arith) ∙ t.blank_trail i (omega arith);
  blank_delimiters = t.blank_delimiters;
  delimited = λ i h. omega (arith, t.delimited i h);
  link_lower = λ x. at_set (λ (w : Variable). w.lower ≤ (push_if a s.lower new_lower).length) s.variables p.domain.0 x _ no_variable (link_grows a s.lower new_lower _ (t.link_lower x)) (link_fits a s.lower new_lower _ (t.link_lower p.domain.0));
  link_upper = λ x. at_set (λ (w : Variable). w.upper ≤ (push_if b s.upper new_upper).length) s.variables p.domain.0 x _ no_variable (link_grows b s.upper new_upper _ (t.link_upper x)) (link_fits b s.upper new_upper _ (t.link_upper p.domain.0));
  link_holes = λ x. at_set (λ (w : Variable). w.holes ≤ (push_if c s.holes new_holes).length) s.variables p.domain.0 x _ no_variable (link_grows c s.holes new_holes _ (t.link_holes x)) (link_fits c s.holes new_holes _ (t.link_holes p.domain.0));
  named = λ i h. name i h (ltb i n) refl;
}
  where
    n : ℕ
    n = s.trail.length

    c : Bool
    c = is_not_equal p.kind

    e : Entry
    e = record { predicate = p; old = (variable_of s p.domain.0).bounds; reason = r }

    new_lower : Update
    new_lower = record { value = to.lower; position = record { 0 = n }; previous = (variable_of s p.domain.0).lower }

    new_upper : Update
    new_upper = record { value = to.upper; position = record { 0 = n }; previous = (variable_of s p.domain.0).upper }

    new_holes : Update
    new_holes = record { value = p.value; position = record { 0 = n }; previous = (variable_of s p.domain.0).holes }

    name : (i : ℕ) → i < suc n → (q : Bool) → ltb i n ≡ q → (get_or (set s.trail.entries n e) i no_entry).predicate.domain.0 < s.domains
    name i h true k = rw (get_or-set_other s.trail.entries n i e no_entry (omega (arith, ltb-true i n k))) (t.named i (ltb-true i n k))
    name i h false k =
        let same : i ≡ n = omega (arith, ltb-false i n k) in
        rw (same, get_or-set_same s.trail.entries n e no_entry (omega (arith, t.long_trail, m.room))) m.there

allocate_tidy : (s : Assignments) (b : Bounds) → Tidy s → s.domains < 256 → Tidy (allocated s b)
unfolding allocated
allocate_tidy s b t h = record {
  long_trail = t.long_trail;
  long_variables = length-set s.variables s.domains _ ∙ t.long_variables;
  long_delimiters = t.long_delimiters;
  entries = t.entries;
  domains = h;
  checkpoints = t.checkpoints;
  lower = t.lower;
  upper = t.upper;
  holes = t.holes;
  blank_trail = t.blank_trail;
  blank_delimiters = t.blank_delimiters;
  delimited = t.delimited;
  link_lower = λ x. at_set (λ (w : Variable). w.lower ≤ s.lower.length) s.variables s.domains x _ no_variable (t.link_lower x) (omega arith);
  link_upper = λ x. at_set (λ (w : Variable). w.upper ≤ s.upper.length) s.variables s.domains x _ no_variable (t.link_upper x) (omega arith);
  link_holes = λ x. at_set (λ (w : Variable). w.holes ≤ s.holes.length) s.variables s.domains x _ no_variable (t.link_holes x) (omega arith);
  named = λ i k. omega (arith, t.named i k);
}

mark_tidy : (s : Assignments) (x : ℕ) → Tidy s → Tidy (marked s x)
unfolding marked
mark_tidy s x t = record {
  long_trail = t.long_trail;
  long_variables = length-set s.variables x _ ∙ t.long_variables;
  long_delimiters = t.long_delimiters;
  entries = t.entries;
  domains = t.domains;
  checkpoints = t.checkpoints;
  lower = t.lower;
  upper = t.upper;
  holes = t.holes;
  blank_trail = t.blank_trail;
  blank_delimiters = t.blank_delimiters;
  delimited = t.delimited;
  link_lower = λ y. at_set (λ (w : Variable). w.lower ≤ s.lower.length) s.variables x y _ no_variable (t.link_lower y) (t.link_lower x);
  link_upper = λ y. at_set (λ (w : Variable). w.upper ≤ s.upper.length) s.variables x y _ no_variable (t.link_upper y) (t.link_upper x);
  link_holes = λ y. at_set (λ (w : Variable). w.holes ≤ s.holes.length) s.variables x y _ no_variable (t.link_holes y) (t.link_holes x);
  named = t.named;
}

open_tidy : (s : Assignments) → Tidy s → s.checkpoint < 256 → Tidy (opened s)
unfolding opened
open_tidy s t h = record {
  long_trail = t.long_trail;
  long_variables = t.long_variables;
  long_delimiters = length-set s.delimiters s.checkpoint s.trail.length ∙ t.long_delimiters;
  entries = t.entries;
  domains = t.domains;
  checkpoints = h;
  lower = t.lower;
  upper = t.upper;
  holes = t.holes;
  blank_trail = t.blank_trail;
  blank_delimiters = λ i k. get_or-set_other s.delimiters s.checkpoint i s.trail.length 0 (omega arith) ∙ t.blank_delimiters i (omega arith);
  delimited = λ i k. below i k (ltb i s.checkpoint) refl;
  link_lower = t.link_lower;
  link_upper = t.link_upper;
  link_holes = t.link_holes;
  named = t.named;
}
  where
    below : (i : ℕ) → i < suc s.checkpoint → (b : Bool) → ltb i s.checkpoint ≡ b → get_or (set s.delimiters s.checkpoint s.trail.length) i 0 ≤ s.trail.length
    below i k true e = rw (get_or-set_other s.delimiters s.checkpoint i s.trail.length 0 (omega (arith, ltb-true i s.checkpoint e))) (t.delimited i (ltb-true i s.checkpoint e))
    below i k false e =
        let same : i ≡ s.checkpoint = omega (arith, ltb-false i s.checkpoint e) in
        rw (same, get_or-set_same s.delimiters s.checkpoint s.trail.length 0 (omega (arith, t.long_delimiters))) (omega arith)

-- every straight store is in order
pub tidy : {s : Assignments} → Straight s → Tidy s
tidy none = none_tidy
tidy (allocate {s = s} q b i l e h) = allocate_tidy s b (tidy q) h
tidy (enter {s = s} q p r a b to m) = enter_tidy s p r a b to (tidy q) m
tidy (mark {s = s} q x e h) = mark_tidy s x (tidy q)
tidy (open_next {s = s} q h) = open_tidy s (tidy q) h
