-- Undoing what was recorded gives the store back, place by place: each place that is freed is made blank, which is what it was, and each
-- place that was overwritten has its old content in the entry or in the update that goes.
use Prim.Native.Nat.{ℕ, zero, suc, ◌+◌, ◌-◌, ◌≤◌, ◌<◌}
use mathlib.Core.Bool.{Bool, true, false}
use mathlib.Core.Path.{◌≡◌, refl, sym, ap, ◌∙◌}
use mathlib.Core.Logic.{◌≢◌}
use mathlib.Core.List.{List}
use lib.ListN.{get_or, set}
use lib.Seq.{set-set, set-get_or, get_or-set_same, get_or-set_other}
use native.Mathlib.Omega.{arith}
use Rattle.predicates.specs.declared.Predicate.{Predicate}
use Rattle.predicates.specs.declared.Reason.{Reason}
use Rattle.domains.specs.declared.Bounds.{Bounds}
use Rattle.domains.specs.Domain.{is_not_equal, pruned_by}
use Rattle.pools.specs.declared.Update.{Update}
use Rattle.pools.specs.declared.Pool.{Pool}
use Rattle.pools.specs.Chain.{no_update}
use Rattle.stories.specs.declared.Entry.{Entry}
use Rattle.stores.specs.declared.Variable.{Variable}
use Rattle.stores.specs.declared.Assignments.{Assignments}
use Rattle.stories.specs.Story.{no_entry}
use Rattle.stores.specs.Store.{no_variable, variable_of, push_if, link_if, pop_if, back_if, differs, recorded, undone_by, undone, undone_all, newest, changed_by, opened, with_checkpoints, cut}
use Rattle.stores.specs.Calls.{synchronised}
use Rattle.stores.proofs.Straight.{Records, Tidy, TidyPool}

-- a place that was blank, written and made blank again
restored : {A : Type 0} (l : List A) (i : ℕ) (a d : A) → get_or l i d ≡ d → set (set l i a) i d ≡ l
restored l i a d e = set-set l i a d ∙ ap (set l i) (sym e) ∙ set-get_or l i d

less_one : (n : ℕ) → suc n - 1 ≡ n
less_one n = omega arith

popped : (b : Bool) (p : Pool) (u : Update) (n : ℕ) → TidyPool p n → pop_if b (push_if b p u) ≡ p
popped false p u n t = refl
popped true p u n t =
    let cells : set (set p.updates p.length u) (suc p.length - 1) no_update ≡ p.updates =
    ap (λ (k : ℕ). set (set p.updates p.length u) k no_update) (less_one p.length) ∙ restored p.updates p.length u no_update (t.blank p.length (omega arith)) in
    λ i. record { updates = cells i; length = less_one p.length i }

linked : (b : Bool) (p : Pool) (u : Update) (n : ℕ) → TidyPool p n → n < 1024 → back_if b (push_if b p u) (link_if b p u.previous) ≡ u.previous
linked false p u n t h = refl
linked true p u n t h =
    ap (λ (k : ℕ). (get_or (set p.updates p.length u) k no_update).previous) (less_one p.length)
    ∙ ap (λ (w : Update). w.previous) (get_or-set_same p.updates p.length u no_update (omega (arith, t.long, t.short)))

module _ (s : Assignments) (p : Predicate) (r : Reason) (a b : Bool) (to : Bounds) (t : Tidy s) (m : Records s p a b to) (above : 0 < s.checkpoint) where
  x : ℕ
  x = p.domain.0

  n : ℕ
  n = s.trail.length

  was : Variable
  was = variable_of s x

  -- what the undo finds
  entry : Entry
  entry = record { predicate = p; old = was.bounds; reason = r }

  now : Variable
  now = record {
    bounds = to;
    initial = was.initial;
    lower = link_if a s.lower was.lower;
    upper = link_if b s.upper was.upper;
    holes = link_if (is_not_equal p.kind) s.holes was.holes;
    mark = was.mark;
  }

  found_entry : newest (recorded s p r a b to) ≡ entry
  unfolding recorded x n was entry
  found_entry =
      ap (λ (k : ℕ). get_or (set s.trail.entries n entry) k no_entry) (less_one n)
      ∙ get_or-set_same s.trail.entries n entry no_entry (omega (arith, t.long_trail, m.room))

  found_variable : changed_by (recorded s p r a b to) entry ≡ now
  unfolding recorded x n was entry now
  found_variable = get_or-set_same s.variables x now no_variable (omega (arith, t.long_variables, t.domains, m.there))

  undone_by_lem : undone_by (recorded s p r a b to) entry now ≡ s
  unfolding undone_by recorded x n was entry now
  undone_by_lem =
      let c : Bool = is_not_equal p.kind in
      let new_lower : Update = record { value = to.lower; position = record { 0 = n }; previous = was.lower } in
      let new_upper : Update = record { value = to.upper; position = record { 0 = n }; previous = was.upper } in
      let new_hole : Update = record { value = p.value; position = record { 0 = n }; previous = was.holes } in
      let is_a : differs was.bounds.lower to.lower ≡ a = sym (m.lower_update above) in
      let is_b : differs was.bounds.upper to.upper ≡ b = sym (m.upper_update above) in
      let entries : set (set s.trail.entries n entry) (suc n - 1) no_entry ≡ s.trail.entries =
      ap (λ (k : ℕ). set (set s.trail.entries n entry) k no_entry) (less_one n) ∙ restored s.trail.entries n entry no_entry (t.blank_trail n (omega arith)) in
      let lower : pop_if (differs was.bounds.lower to.lower) (push_if a s.lower new_lower) ≡ s.lower =
      ap (λ (f : Bool). pop_if f (push_if a s.lower new_lower)) is_a ∙ popped a s.lower new_lower n t.lower in
      let upper : pop_if (differs was.bounds.upper to.upper) (push_if b s.upper new_upper) ≡ s.upper =
      ap (λ (f : Bool). pop_if f (push_if b s.upper new_upper)) is_b ∙ popped b s.upper new_upper n t.upper in
      let link_l : back_if (differs was.bounds.lower to.lower) (push_if a s.lower new_lower) now.lower ≡ was.lower =
      ap (λ (f : Bool). back_if f (push_if a s.lower new_lower) now.lower) is_a ∙ linked a s.lower new_lower n t.lower m.room in
      let link_u : back_if (differs was.bounds.upper to.upper) (push_if b s.upper new_upper) now.upper ≡ was.upper =
      ap (λ (f : Bool). back_if f (push_if b s.upper new_upper) now.upper) is_b ∙ linked b s.upper new_upper n t.upper m.room in
      let link_h : back_if c (push_if c s.holes new_hole) now.holes ≡ was.holes = linked c s.holes new_hole n t.holes m.room in
      let variables : set (set s.variables x now) x was ≡ s.variables = set-set s.variables x now was ∙ set-get_or s.variables x no_variable in
      let count : s.pruned + pruned_by p.kind was.bounds to - pruned_by p.kind was.bounds to ≡ s.pruned = omega arith in
      (λ i. record {
        trail = record { entries = entries i; length = less_one n i };
        lower = lower i;
        upper = upper i;
        holes = popped c s.holes new_hole n t.holes i;
        variables = set (set s.variables x now) x (record { bounds = was.bounds; initial = was.initial; lower = link_l i; upper = link_u i; holes = link_h i; mark = was.mark });
        domains = s.domains;
        delimiters = s.delimiters;
        checkpoint = s.checkpoint;
        pruned = count i;
      })
      ∙ ap (λ (vs : List Variable). record { trail = s.trail; lower = s.lower; upper = s.upper; holes = s.holes; variables = vs; domains = s.domains; delimiters = s.delimiters; checkpoint = s.checkpoint; pruned = s.pruned }) variables

  -- an entry that was recorded, undone
  pub undone_recorded : undone (recorded s p r a b to) ≡ s
  undone_recorded =
      ap (λ (e : Entry). undone_by (recorded s p r a b to) e (changed_by (recorded s p r a b to) e)) found_entry
      ∙ ap (undone_by (recorded s p r a b to) entry) found_variable
      ∙ undone_by_lem

-- ---- going back to a checkpoint

-- undoing does not look at the checkpoints
undone_checkpoints : (n : ℕ) (s : Assignments) (ds : List ℕ) (c : ℕ) → undone_all n (with_checkpoints s ds c) ≡ with_checkpoints (undone_all n s) ds c
unfolding undone_all undone_by
undone_checkpoints zero s ds c = refl
undone_checkpoints (suc n) s ds c = undone_checkpoints n (undone s) ds c

-- one delimiter more, cut off again
cut_opened : (ds : List ℕ) (c k d : ℕ) → k ≤ c → get_or ds c 0 ≡ 0 → cut (suc c - k) (set ds c d) k ≡ cut (c - k) ds k
unfolding cut
cut_opened ds c k d h e =
    let more : suc c - k ≡ suc (c - k) = omega arith in
    let last : k + (c - k) ≡ c = omega arith in
    ap (λ (n : ℕ). cut n (set ds c d) k) more
    ∙ ap (λ (i : ℕ). cut (c - k) (set (set ds c d) i 0) k) last
    ∙ ap (λ (l : List ℕ). cut (c - k) l k) (restored ds c d 0 e)

-- an entry above k is forgotten
pub back_recorded : (s : Assignments) (p : Predicate) (r : Reason) (a b : Bool) (to : Bounds) → Tidy s → Records s p a b to → (k : ℕ) → k < s.checkpoint → synchronised (recorded s p r a b to) k ≡ synchronised s k
unfolding synchronised undone_all recorded
back_recorded s p r a b to t m k h =
    let n : ℕ = s.trail.length in
    let d : ℕ = get_or s.delimiters k 0 in
    let more : suc n - d ≡ suc (n - d) = omega (arith, t.delimited k h) in
    ap (λ (q : Assignments). with_checkpoints q (cut (s.checkpoint - k) s.delimiters k) k)
    (ap (λ (j : ℕ). undone_all j (recorded s p r a b to)) more ∙ ap (undone_all (n - d)) (undone_recorded s p r a b to t m (omega arith)))

-- a checkpoint above k is forgotten
pub back_opened : (s : Assignments) → Tidy s → (k : ℕ) → k < s.checkpoint → synchronised (opened s) k ≡ synchronised s k
unfolding synchronised opened
back_opened s t k h =
    let n : ℕ = s.trail.length in
    let c : ℕ = s.checkpoint in
    let ds : List ℕ = set s.delimiters c n in
    let other : k ≢ c = omega arith in
    let same : get_or ds k 0 ≡ get_or s.delimiters k 0 = get_or-set_other s.delimiters c k n 0 other in
    let core : undone_all (n - get_or ds k 0) (with_checkpoints s ds (suc c)) ≡ with_checkpoints (undone_all (n - get_or s.delimiters k 0) s) ds (suc c) =
    ap (λ (d : ℕ). undone_all (n - d) (with_checkpoints s ds (suc c))) same ∙ undone_checkpoints (n - get_or s.delimiters k 0) s ds (suc c) in
    let cells : cut (suc c - k) ds k ≡ cut (c - k) s.delimiters k = cut_opened s.delimiters c k n (omega arith) (t.blank_delimiters c (omega arith)) in
    λ i. with_checkpoints (core i) (cells i) k

-- going back to where a checkpoint was opened gives the store itself
pub back_where_opened : (s : Assignments) → Tidy s → s.checkpoint < 256 → synchronised (opened s) s.checkpoint ≡ s
unfolding synchronised opened undone_all cut
back_where_opened s t h =
    let n : ℕ = s.trail.length in
    let c : ℕ = s.checkpoint in
    let ds : List ℕ = set s.delimiters c n in
    let none : n - get_or ds c 0 ≡ 0 = omega (arith, get_or-set_same s.delimiters c n 0 (omega (arith, t.long_delimiters))) in
    let zeros : c - c ≡ 0 = omega arith in
    let core : undone_all (n - get_or ds c 0) (with_checkpoints s ds (suc c)) ≡ with_checkpoints s ds (suc c) = ap (λ (j : ℕ). undone_all j (with_checkpoints s ds (suc c))) none in
    let cells : cut (suc c - c) ds c ≡ s.delimiters =
    cut_opened s.delimiters c c n (omega arith) (t.blank_delimiters c (omega arith)) ∙ ap (λ (j : ℕ). cut j s.delimiters c) zeros in
    λ i. with_checkpoints (core i) (cells i) c
