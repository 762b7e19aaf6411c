-- What public calls can make: every such store is straight, and a synchronise gives back the store as it was when the checkpoint above was
-- opened, because each call since then is forgotten by it.
use Prim.Native.Nat.{ℕ, ◌+◌, ◌≤◌, ◌<◌}
use mathlib.Core.Bool.{Bool, true, false}
use mathlib.Core.Path.{◌≡◌, refl, sym, ◌∙◌, subst}
use mathlib.Core.List.{List, [], ◌∷◌}
use lib.IntN.{ℤ, pos}
use lib.ListN.{length, get_or}
use lib.Dec.{ltb}
use borrow.Author.Tests.{ltb-true, ltb-false}
use native.Mathlib.Omega.{arith}
use mir.Syntax.{w32}
use mir.Val.{SFits}
use Rattle.integers.proofs.Order.{integers, →fits}
use Rattle.predicates.specs.declared.Predicate.{Predicate}
use Rattle.predicates.specs.declared.Reason.{Reason}
use Rattle.domains.specs.declared.Bounds.{Bounds}
use Rattle.domains.proofs.Tests.{clash}
use Rattle.stores.specs.declared.Assignments.{Assignments}
use Rattle.stores.specs.Made.{Made, Since}
use Rattle.stores.specs.Store.{bare, recorded, opened}
use Rattle.stores.specs.Calls.{fresh, listed, posted, entries_above, synchronised, synchronise_store}
use Rattle.stories.specs.Calls.{is_empty, missing}
use Rattle.stores.proofs.Straight.{Records, Straight, tidy}
use Rattle.stores.proofs.Undo.{back_recorded, back_opened, back_where_opened}
use Rattle.stores.proofs.Steps.{post_records, post_straight, grown_straight, back_straight}
use Rattle.stores.proofs.Lists.{listed_straight}
use Rattle.stores.proofs.Cases.{post_cases, grow_cases, list_cases, open_cases, open_taken, synchronise_cases, synchronise_taken}

fresh_straight : Straight fresh
unfolding fresh bare
fresh_straight =
    grown_straight bare Straight.none (record { lower = pos 1; upper = pos 1 })
    (record { lower = →fits (pos 1) (omega arith) (omega arith); upper = →fits (pos 1) (omega arith) (omega arith) })
    (omega integers) refl (omega arith) (omega arith)

list_straight : (s : Assignments) → Straight s → (vs : List ℤ) → ((i : ℕ) → SFits w32 (get_or vs i (pos 0))) → s.checkpoint ≡ 0 → is_empty vs ≡ false → s.domains < 256 → s.trail.length + (2 + length (missing vs)) ≤ 1024 → Straight (listed s vs)
list_straight s q [] i root some few room = clash refl some
list_straight s q (a ∷ vs) i root some few room = listed_straight s q a vs i root few room

-- every store that public calls made
pub straight : {s : Assignments} → Made s → Straight s
straight Made.fresh = fresh_straight
straight (Made.grow {s = s} m b i) = grow_cases s b Straight (straight m) (λ root some few room. grown_straight s (straight m) b i some (omega arith) few room)
straight (Made.list {s = s} m vs i) = list_cases s vs Straight (straight m) (λ root some few room. list_straight s (straight m) vs i (omega arith) some few room)
straight (Made.post {s = s} m p r i) = post_cases s p r Straight (tidy (straight m)).entries (straight m) (λ there does room fits. post_straight s (straight m) p r i there does room fits)
straight (Made.open_next {s = s} m) = open_cases s Straight (straight m) (λ few. Straight.open_next (straight m) few)
straight (Made.synchronise {s = s} m k room) = synchronise_cases s k room Straight (straight m) (λ lower. back_straight (straight m) k lower)

-- ---- since a checkpoint was opened

-- the same by steps that never go back
data Above (m : Assignments) : Assignments → Type 0 where
  open_next : m.checkpoint < 256 → Above m (opened m)
  enter : {s : Assignments} → Above m s → (p : Predicate) (r : Reason) (a b : Bool) (to : Bounds) → Records s p a b to → Above m (recorded s p r a b to)
  open_more : {s : Assignments} → Above m s → s.checkpoint < 256 → Above m (opened s)

module _ (m : Assignments) (q : Straight m) where
  higher : {s : Assignments} → Above m s → m.checkpoint < s.checkpoint
  unfolding opened recorded
  higher (Above.open_next h) = omega arith
  higher (Above.enter u p r a b to k) = higher u
  higher (Above.open_more u h) = let l = higher u in omega arith

  steps : {s : Assignments} → Above m s → Straight s
  steps (Above.open_next h) = Straight.open_next q h
  steps (Above.enter u p r a b to k) = Straight.enter (steps u) p r a b to k
  steps (Above.open_more u h) = Straight.open_next (steps u) h

  comes_back : {s : Assignments} → Above m s → synchronised s m.checkpoint ≡ m
  comes_back (Above.open_next h) = back_where_opened m (tidy q) h
  comes_back (Above.enter {s = s} u p r a b to k) = back_recorded s p r a b to (tidy (steps u)) k m.checkpoint (higher u) ∙ comes_back u
  comes_back (Above.open_more {s = s} u h) = back_opened s (tidy (steps u)) m.checkpoint (higher u) ∙ comes_back u

  back_above : {s : Assignments} → Above m s → (k : ℕ) → m.checkpoint < k → k < s.checkpoint → Above m (synchronised s k)
  unfolding opened recorded
  back_above (Above.open_next h) k g l = absurd (omega arith)
  back_above (Above.enter {s = s} u p r a b to e) k g l = subst (Above m) (sym (back_recorded s p r a b to (tidy (steps u)) e k l)) (back_above u k g l)
  back_above (Above.open_more {s = s} u h) k g l = go (ltb k s.checkpoint) refl (λ j. back_above u k g j)
    where
      go : (b : Bool) → ltb k s.checkpoint ≡ b → (k < s.checkpoint → Above m (synchronised s k)) → Above m (synchronised (opened s) k)
      go true e before = subst (Above m) (sym (back_opened s (tidy (steps u)) k (ltb-true k s.checkpoint e))) (before (ltb-true k s.checkpoint e))
      go false e before =
          let here : k ≡ s.checkpoint = omega (arith, ltb-false k s.checkpoint e) in
          rw here (subst (Above m) (sym (back_where_opened s (tidy (steps u)) h)) u)

  above : {s : Assignments} → Since m s → Above m s
  unfolding posted synchronised
  above (Since.open_next h) = subst (Above m) (open_taken m h).1 (Above.open_next h)
  above (Since.grow {s = s} u b i) = grow_cases s b (Above m) (above u) (λ root some few room. absurd (let l = higher (above u) in omega arith))
  above (Since.list {s = s} u vs i) = list_cases s vs (Above m) (above u) (λ root some few room. absurd (let l = higher (above u) in omega arith))
  above (Since.post {s = s} u p r i) = post_cases s p r (Above m) (tidy (steps (above u))).entries (above u) (λ there does room fits. Above.enter (above u) p r _ _ _ (post_records s (steps (above u)) p r i there does room fits))
  above (Since.open_more {s = s} u) = open_cases s (Above m) (above u) (λ few. Above.open_more (above u) few)
  above (Since.synchronise {s = s} u k room h) =
      synchronise_cases s k room (λ (t : Assignments). m.checkpoint < t.checkpoint → Above m t) (λ l. above u) (λ lower l. back_above (above u) k l lower) h

-- the store that opened comes back
pub back_law : (m s : Assignments) (room : ℕ) → Made m → Since m s → entries_above s m.checkpoint ≤ room → synchronise_store s m.checkpoint room ≡ m
back_law m s room made since fits =
    let u = above m (straight made) since in
    sym (synchronise_taken s m.checkpoint room (higher m (straight made) u) fits).1 ∙ comes_back m (straight made) u
