-- The one premise of every public statement: public calls made the store from a fresh one. Assumes nothing.
use Rattle.std.specs.Prelude.{ℕ, ◌<◌, List, ℤ, pos, get_or}
use Rattle.std.specs.Int.{w32}
use Rattle.std.proofs.Common.{SFits}
use Rattle.predicates.specs.declared.Predicate.{Predicate}
use Rattle.predicates.specs.declared.Reason.{Reason}
use Rattle.domains.specs.declared.Bounds.{Bounds}
use Rattle.stores.specs.declared.Assignments.{Assignments}
use Rattle.stores.specs.Calls as Calls

-- two i32
pub record AreI32 (b : Bounds) : Type 0 where
  pub lower : SFits w32 b.lower
  pub upper : SFits w32 b.upper

-- a case for each call that may change the store, on any arguments, refused calls included
pub data Made : Assignments → Type 0 where
  fresh : Made Calls.fresh
  grow : {s : Assignments} → Made s → (b : Bounds) → AreI32 b → Made (Calls.grow_store s b)
  list : {s : Assignments} → Made s → (vs : List ℤ) → ((i : ℕ) → SFits w32 (get_or vs i (pos 0))) → Made (Calls.list_store s vs)
  post : {s : Assignments} → Made s → (p : Predicate) (r : Reason) → SFits w32 p.value → Made (Calls.post_store s p r)
  open_next : {s : Assignments} → Made s → Made (Calls.open_store s)
  synchronise : {s : Assignments} → Made s → (k room : ℕ) → Made (Calls.synchronise_store s k room)

-- s comes of m by opening the checkpoint above m's, and by calls none of which goes back to m's checkpoint
pub data Since (m : Assignments) : Assignments → Type 0 where
  open_next : m.checkpoint < 256 → Since m (Calls.open_store m)
  grow : {s : Assignments} → Since m s → (b : Bounds) → AreI32 b → Since m (Calls.grow_store s b)
  list : {s : Assignments} → Since m s → (vs : List ℤ) → ((i : ℕ) → SFits w32 (get_or vs i (pos 0))) → Since m (Calls.list_store s vs)
  post : {s : Assignments} → Since m s → (p : Predicate) (r : Reason) → SFits w32 p.value → Since m (Calls.post_store s p r)
  open_more : {s : Assignments} → Since m s → Since m (Calls.open_store s)
  synchronise : {s : Assignments} → Since m s → (k room : ℕ) → m.checkpoint < (Calls.synchronise_store s k room).checkpoint → Since m (Calls.synchronise_store s k room)
