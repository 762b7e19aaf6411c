-- The cases of each call: what refuses it, what it does otherwise, and that it does nothing else. Each follows the call's definition test
-- by test. The proofs of the code cite the cases one by one; a property of stores is carried over a call by `..-cases`.
use Rattle.std.specs.Prelude.{Ok, Err}
use Prim.Native.Nat.{ℕ, suc, ◌+◌, ◌≤◌, ◌<◌}
use mathlib.Core.Bool.{Bool, true, false, ◌&&◌}
use mathlib.Core.Path.{◌≡◌, refl, sym, subst}
use mathlib.Core.List.{List}
use lib.IntN.{ℤ}
use lib.ListN.{length}
use lib.Dec.{ltb, leb}
use lib.Signed.{lt_z, ◌≤ℤ◌}
use borrow.Author.Tests.{ltb-true, ltb-false, leb-true, leb-false, lt-ltb, le-ltb, le-leb, lt-leb}
use native.Mathlib.Omega.{arith}
use Rattle.integers.proofs.Order.{integers}
use Rattle.predicates.specs.declared.Predicate.{Predicate}
use Rattle.predicates.specs.declared.Reason.{Reason}
use Rattle.domains.specs.declared.Bounds.{Bounds}
use Rattle.domains.specs.Choice.{pick}
use Rattle.domains.specs.Domain.{overflows, emptied, moved, after}
use Rattle.domains.proofs.Laws.{after_idle, after_moved}
use Rattle.stories.specs.declared.Refusal.TheVariants.{NoVariable, NotRoot, BadDomain, TooManyVariables, TrailFull, StepOverflow, Empty, TooManyCheckpoints, NotLower, NoRoom}
use Rattle.stores.specs.declared.Assignments.{Assignments}
use Rattle.stores.specs.Store.{opened}
use Rattle.stores.specs.Calls.{grow_answer, grow_store, grown, list_answer, list_store, listed, domain_before, does, post_answer, keeps, post_store, posted, open_answer, open_store, entries_above, unfixed, synchronise_answer, synchronise_store, synchronised}
use Rattle.stories.specs.Calls.{missing, is_empty}

-- ---- posts

module _ (s : Assignments) (p : Predicate) (r : Reason) where
  pub post_absent : s.domains ≤ p.domain.0 → (Err NoVariable ≡ post_answer s p) × (s ≡ post_store s p r)
  unfolding post_answer post_store
  post_absent h = (rw (le-leb s.domains p.domain.0 h), rw (le-leb s.domains p.domain.0 h) (sym (no_push (does s p))))
    where
      no_push : (b : Bool) → pick (b && false) (posted s p r) s ≡ s
      no_push true = refl
      no_push false = refl

  module _ (there : p.domain.0 < s.domains) where
    pub post_idle : does s p ≡ false → s.trail.length ≤ 1024 → (pick (emptied (domain_before s p)) (Err Empty) (Ok false) ≡ post_answer s p) × (s ≡ post_store s p r)
    unfolding post_answer post_store
    post_idle e h =
        let room : ltb 1024 (s.trail.length + 0) ≡ false = le-ltb 1024 (s.trail.length + 0) (omega arith) in
        (rw (lt-leb s.domains p.domain.0 there, e, room, after_idle p.kind p.value (domain_before s p) e), rw e)

    module _ (acting : does s p ≡ true) where
      pub post_full : 1024 ≤ s.trail.length → (Err TrailFull ≡ post_answer s p) × (s ≡ post_store s p r)
      unfolding post_answer post_store
      post_full h =
          let full : ltb 1024 (s.trail.length + 1) ≡ true = lt-ltb 1024 (s.trail.length + 1) (omega arith) in
          (rw (lt-leb s.domains p.domain.0 there, acting, full), rw (lt-leb s.domains p.domain.0 there, acting, full))

      module _ (h : s.trail.length < 1024) where
        room : ltb 1024 (s.trail.length + 1) ≡ false
        room = le-ltb 1024 (s.trail.length + 1) (omega arith)

        pub post_overflows : overflows p.kind p.value (domain_before s p) ≡ true → (Err StepOverflow ≡ post_answer s p) × (s ≡ post_store s p r)
        unfolding post_answer post_store
        post_overflows e = (rw (lt-leb s.domains p.domain.0 there, acting, room, e), rw (lt-leb s.domains p.domain.0 there, acting, room, e))

        pub post_taken : overflows p.kind p.value (domain_before s p) ≡ false → (pick (emptied (moved p.kind p.value (domain_before s p))) (Err Empty) (Ok true) ≡ post_answer s p) × (posted s p r ≡ post_store s p r)
        unfolding post_answer post_store
        post_taken e = (
          rw (lt-leb s.domains p.domain.0 there, acting, room, e, after_moved p.kind p.value (domain_before s p) acting),
          rw (lt-leb s.domains p.domain.0 there, acting, room, e) (sym (push (emptied (after p.kind p.value (domain_before s p))))),
        )
          where
            push : (b : Bool) → pick (keeps (pick b (Err Empty) (Ok true))) (posted s p r) s ≡ posted s p r
            push true = refl
            push false = refl

  pub post_cases : (P : Assignments → Type 0) → s.trail.length ≤ 1024 → P s → (p.domain.0 < s.domains → does s p ≡ true → s.trail.length < 1024 → overflows p.kind p.value (domain_before s p) ≡ false → P (posted s p r)) → P (post_store s p r)
  post_cases P long idle takes = go (leb s.domains p.domain.0) refl (does s p) refl (leb 1024 s.trail.length) refl (overflows p.kind p.value (domain_before s p)) refl
    where
      go : (a : Bool) → leb s.domains p.domain.0 ≡ a → (b : Bool) → does s p ≡ b → (c : Bool) → leb 1024 s.trail.length ≡ c → (d : Bool) → overflows p.kind p.value (domain_before s p) ≡ d → P (post_store s p r)
      go true e b f c g d h = subst P (post_absent (leb-true _ _ e)).1 idle
      go false e false f c g d h = subst P (post_idle (leb-false _ _ e) f long).1 idle
      go false e true f true g d h = subst P (post_full (leb-false _ _ e) f (leb-true _ _ g)).1 idle
      go false e true f false g true h = subst P (post_overflows (leb-false _ _ e) f (leb-false _ _ g) h).1 idle
      go false e true f false g false h = subst P (post_taken (leb-false _ _ e) f (leb-false _ _ g) h).1 (takes (leb-false _ _ e) f (leb-false _ _ g) h)

-- ---- creating

module _ (s : Assignments) (b : Bounds) where
  pub grow_above : 0 < s.checkpoint → (Err NotRoot ≡ grow_answer s b) × (s ≡ grow_store s b)
  unfolding grow_answer grow_store
  grow_above h = (rw (lt-ltb 0 s.checkpoint h), rw (lt-ltb 0 s.checkpoint h))

  module _ (root : s.checkpoint ≤ 0) where
    pub grow_bad : lt_z b.upper b.lower ≡ true → (Err BadDomain ≡ grow_answer s b) × (s ≡ grow_store s b)
    unfolding grow_answer grow_store
    grow_bad e = (rw (le-ltb 0 s.checkpoint root, e), rw (le-ltb 0 s.checkpoint root, e))

    module _ (good : lt_z b.upper b.lower ≡ false) where
      pub grow_many : 256 ≤ s.domains → (Err TooManyVariables ≡ grow_answer s b) × (s ≡ grow_store s b)
      unfolding grow_answer grow_store
      grow_many h = (rw (le-ltb 0 s.checkpoint root, good, le-leb 256 s.domains h), rw (le-ltb 0 s.checkpoint root, good, le-leb 256 s.domains h))

      module _ (few : s.domains < 256) where
        pub grow_full : 1024 < s.trail.length + 2 → (Err TrailFull ≡ grow_answer s b) × (s ≡ grow_store s b)
        unfolding grow_answer grow_store
        grow_full h = (
          rw (le-ltb 0 s.checkpoint root, good, lt-leb 256 s.domains few, lt-ltb 1024 (s.trail.length + 2) h),
          rw (le-ltb 0 s.checkpoint root, good, lt-leb 256 s.domains few, lt-ltb 1024 (s.trail.length + 2) h),
        )

        pub grow_taken : s.trail.length + 2 ≤ 1024 → (Ok (record { 0 = s.domains }) ≡ grow_answer s b) × (grown s b ≡ grow_store s b)
        unfolding grow_answer grow_store
        grow_taken h = (
          rw (le-ltb 0 s.checkpoint root, good, lt-leb 256 s.domains few, le-ltb 1024 (s.trail.length + 2) h),
          rw (le-ltb 0 s.checkpoint root, good, lt-leb 256 s.domains few, le-ltb 1024 (s.trail.length + 2) h),
        )

  pub grow_cases : (P : Assignments → Type 0) → P s → (s.checkpoint ≤ 0 → b.lower ≤ℤ b.upper → s.domains < 256 → s.trail.length + 2 ≤ 1024 → P (grown s b)) → P (grow_store s b)
  grow_cases P idle takes = go (ltb 0 s.checkpoint) refl (lt_z b.upper b.lower) refl (leb 256 s.domains) refl (ltb 1024 (s.trail.length + 2)) refl
    where
      go : (a : Bool) → ltb 0 s.checkpoint ≡ a → (c : Bool) → lt_z b.upper b.lower ≡ c → (d : Bool) → leb 256 s.domains ≡ d → (e : Bool) → ltb 1024 (s.trail.length + 2) ≡ e → P (grow_store s b)
      go true h c i d j e k = subst P (grow_above (ltb-true _ _ h)).1 idle
      go false h true i d j e k = subst P (grow_bad (ltb-false _ _ h) i).1 idle
      go false h false i true j e k = subst P (grow_many (ltb-false _ _ h) i (leb-true _ _ j)).1 idle
      go false h false i false j true k = subst P (grow_full (ltb-false _ _ h) i (leb-false _ _ j) (ltb-true _ _ k)).1 idle
      go false h false i false j false k = subst P (grow_taken (ltb-false _ _ h) i (leb-false _ _ j) (ltb-false _ _ k)).1 (takes (ltb-false _ _ h) (omega integers) (leb-false _ _ j) (ltb-false _ _ k))

module _ (s : Assignments) (vs : List ℤ) where
  pub list_above : 0 < s.checkpoint → (Err NotRoot ≡ list_answer s vs) × (s ≡ list_store s vs)
  unfolding list_answer list_store
  list_above h = (rw (lt-ltb 0 s.checkpoint h), rw (lt-ltb 0 s.checkpoint h))

  module _ (root : s.checkpoint ≤ 0) where
    pub list_bad : is_empty vs ≡ true → (Err BadDomain ≡ list_answer s vs) × (s ≡ list_store s vs)
    unfolding list_answer list_store
    list_bad e = (rw (le-ltb 0 s.checkpoint root, e), rw (le-ltb 0 s.checkpoint root, e))

    module _ (good : is_empty vs ≡ false) where
      pub list_many : 256 ≤ s.domains → (Err TooManyVariables ≡ list_answer s vs) × (s ≡ list_store s vs)
      unfolding list_answer list_store
      list_many h = (rw (le-ltb 0 s.checkpoint root, good, le-leb 256 s.domains h), rw (le-ltb 0 s.checkpoint root, good, le-leb 256 s.domains h))

      module _ (few : s.domains < 256) where
        pub list_full : 1024 < s.trail.length + (2 + length (missing vs)) → (Err TrailFull ≡ list_answer s vs) × (s ≡ list_store s vs)
        unfolding list_answer list_store
        list_full h = (
          rw (le-ltb 0 s.checkpoint root, good, lt-leb 256 s.domains few, lt-ltb 1024 (s.trail.length + (2 + length (missing vs))) h),
          rw (le-ltb 0 s.checkpoint root, good, lt-leb 256 s.domains few, lt-ltb 1024 (s.trail.length + (2 + length (missing vs))) h),
        )

        pub list_taken : s.trail.length + (2 + length (missing vs)) ≤ 1024 → (Ok (record { 0 = s.domains }) ≡ list_answer s vs) × (listed s vs ≡ list_store s vs)
        unfolding list_answer list_store
        list_taken h = (
          rw (le-ltb 0 s.checkpoint root, good, lt-leb 256 s.domains few, le-ltb 1024 (s.trail.length + (2 + length (missing vs))) h),
          rw (le-ltb 0 s.checkpoint root, good, lt-leb 256 s.domains few, le-ltb 1024 (s.trail.length + (2 + length (missing vs))) h),
        )

  pub list_cases : (P : Assignments → Type 0) → P s → (s.checkpoint ≤ 0 → is_empty vs ≡ false → s.domains < 256 → s.trail.length + (2 + length (missing vs)) ≤ 1024 → P (listed s vs)) → P (list_store s vs)
  list_cases P idle takes = go (ltb 0 s.checkpoint) refl (is_empty vs) refl (leb 256 s.domains) refl (ltb 1024 (s.trail.length + (2 + length (missing vs)))) refl
    where
      go : (a : Bool) → ltb 0 s.checkpoint ≡ a → (c : Bool) → is_empty vs ≡ c → (d : Bool) → leb 256 s.domains ≡ d → (e : Bool) → ltb 1024 (s.trail.length + (2 + length (missing vs))) ≡ e → P (list_store s vs)
      go true h c i d j e k = subst P (list_above (ltb-true _ _ h)).1 idle
      go false h true i d j e k = subst P (list_bad (ltb-false _ _ h) i).1 idle
      go false h false i true j e k = subst P (list_many (ltb-false _ _ h) i (leb-true _ _ j)).1 idle
      go false h false i false j true k = subst P (list_full (ltb-false _ _ h) i (leb-false _ _ j) (ltb-true _ _ k)).1 idle
      go false h false i false j false k = subst P (list_taken (ltb-false _ _ h) i (leb-false _ _ j) (ltb-false _ _ k)).1 (takes (ltb-false _ _ h) i (leb-false _ _ j) (ltb-false _ _ k))

-- ---- checkpoints

module _ (s : Assignments) where
  pub open_many : 256 ≤ s.checkpoint → (Err TooManyCheckpoints ≡ open_answer s) × (s ≡ open_store s)
  unfolding open_answer open_store
  open_many h = (rw (le-leb 256 s.checkpoint h), rw (le-leb 256 s.checkpoint h))

  pub open_taken : s.checkpoint < 256 → (Ok (record { 0 = suc s.checkpoint }) ≡ open_answer s) × (opened s ≡ open_store s)
  unfolding open_answer open_store
  open_taken h = (rw (lt-leb 256 s.checkpoint h), rw (lt-leb 256 s.checkpoint h))

  pub open_cases : (P : Assignments → Type 0) → P s → (s.checkpoint < 256 → P (opened s)) → P (open_store s)
  open_cases P idle takes = go (leb 256 s.checkpoint) refl
    where
      go : (a : Bool) → leb 256 s.checkpoint ≡ a → P (open_store s)
      go true h = subst P (open_many (leb-true _ _ h)).1 idle
      go false h = subst P (open_taken (leb-false _ _ h)).1 (takes (leb-false _ _ h))

module _ (s : Assignments) (k room : ℕ) where
  pub synchronise_above : s.checkpoint ≤ k → (Err NotLower ≡ synchronise_answer s k room) × (s ≡ synchronise_store s k room)
  unfolding synchronise_answer synchronise_store
  synchronise_above h = (rw (le-leb s.checkpoint k h), rw (le-leb s.checkpoint k h))

  module _ (lower : k < s.checkpoint) where
    pub synchronise_short : room < entries_above s k → (Err NoRoom ≡ synchronise_answer s k room) × (s ≡ synchronise_store s k room)
    unfolding synchronise_answer synchronise_store
    synchronise_short h = (rw (lt-leb s.checkpoint k lower, lt-ltb room (entries_above s k) h), rw (lt-leb s.checkpoint k lower, lt-ltb room (entries_above s k) h))

    pub synchronise_taken : entries_above s k ≤ room → (Ok (length (unfixed (entries_above s k) s)) ≡ synchronise_answer s k room) × (synchronised s k ≡ synchronise_store s k room)
    unfolding synchronise_answer synchronise_store
    synchronise_taken h = (rw (lt-leb s.checkpoint k lower, le-ltb room (entries_above s k) h), rw (lt-leb s.checkpoint k lower, le-ltb room (entries_above s k) h))

  pub synchronise_cases : (P : Assignments → Type 0) → P s → (k < s.checkpoint → P (synchronised s k)) → P (synchronise_store s k room)
  synchronise_cases P idle takes = go (leb s.checkpoint k) refl (ltb room (entries_above s k)) refl
    where
      go : (a : Bool) → leb s.checkpoint k ≡ a → (b : Bool) → ltb room (entries_above s k) ≡ b → P (synchronise_store s k room)
      go true h b i = subst P (synchronise_above (leb-true _ _ h)).1 idle
      go false h true i = subst P (synchronise_short (leb-false _ _ h) (ltb-true _ _ i)).1 idle
      go false h false i = subst P (synchronise_taken (leb-false _ _ h) (ltb-false _ _ i)).1 (takes (leb-false _ _ h))
