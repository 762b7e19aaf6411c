-- The promises of Promises.antt, kept: refusals follow the list of their tests, posts the set law of domains, and what holds of a store
-- holds because public calls make straight stores only.
use Rattle.std.specs.Prelude.{Result, Ok, Err}
use Prim.Native.Nat.{ℕ, zero, suc, ◌+◌, ◌≤◌, ◌<◌, min}
use mathlib.Core.Bool.{Bool, true, false, not, ◌&&◌}
use mathlib.Core.Path.{◌≡◌, refl, sym, ap, ◌∙◌, subst}
use mathlib.Core.Logic.{◌≢◌, ◌↔◌}
use mathlib.Core.List.{List, [], ◌∷◌}
use lib.IntN.{ℤ}
use lib.ListN.{length, get_or}
use lib.Seq.{get_or-set_same}
use lib.Dec.{leb, ltb}
use lib.Signed.{le_z, lt_z}
use borrow.Author.Tests.{ltb-true, ltb-false, leb-true, leb-false, ne_eqb}
use native.Mathlib.Omega.{arith}
use mir.Syntax.{w32}
use mir.Val.{SFits}
use Rattle.integers.specs.Integers.{eq_z}
use Rattle.integers.proofs.Order.{integers, →eq_t}
use Rattle.predicates.specs.declared.Predicate.{Predicate}
use Rattle.predicates.specs.declared.PredicateType.{PredicateType}
use Rattle.predicates.specs.declared.PredicateType.TheVariants.{LowerBound, NotEqual, Equal, UpperBound}
use Rattle.predicates.specs.declared.Reason.{Reason}
use Rattle.predicates.specs.declared.Reason.TheVariants.{None}
use Rattle.domains.specs.declared.Bounds.{Bounds}
use Rattle.domains.specs.Choice.{pick}
use Rattle.domains.specs.Domain.{Domain, satisfies, member, emptied, overflows, acts, after, moved}
use Rattle.domains.proofs.Tests.{by_cases, clash, both}
use Rattle.domains.proofs.Membership.{left}
use Rattle.domains.specs.Promises.{Tight}
use Rattle.domains.proofs.Laws as Domains
use Rattle.stories.specs.declared.Entry.{Entry}
use Rattle.stories.specs.declared.Refusal.{Refusal}
use Rattle.stories.specs.declared.Refusal.TheVariants.{NoVariable, NotRoot, BadDomain, TooManyVariables, TrailFull, StepOverflow, Empty, TooManyCheckpoints, NotLower, NoRoom, NoSuchEntry, NoDecision, NoReason}
use Rattle.stores.specs.declared.Assignments.{Assignments}
use Rattle.stories.specs.Refusals.{number_of, Ground, decided, First}
use Rattle.stories.specs.Words.{told_of}
use Rattle.stories.specs.Words.Told.{ok, refused}
use Rattle.stories.specs.Story.{no_entry}
use Rattle.stores.specs.Store.{bare, variable_of, domain_of, entry_of, recorded, allocated, marked, opened}
use Rattle.stores.specs.Calls.{grow_grounds, grow_answer, grow_store, grown, fresh, new_variable, list_answer, list_store, listed, domain_before, does, post_grounds, post_answer, keeps, post_store, posted, open_grounds, open_answer, open_store, entries_above, unfixed, synchronise_grounds, synchronise_answer, synchronise_store, synchronised, pairs_of}
use Rattle.stories.specs.Calls.{span_of, missing, is_empty}
use Rattle.stores.specs.Made.{Made, Since}
use Rattle.stories.specs.Story.{on, remains, replayed}
use Rattle.stores.specs.Promises.{RefusalLaw, UntouchedLaw, RoomLaw, SameLaw, SetLaw, BoundsLaw, Lost, SomeLeft, AnswerLaw, ReplayLaw, PositionLaw, CountLaw, BackLaw, OpenedLaw}
use Rattle.stores.proofs.Straight.{tidy}
use Rattle.stores.proofs.Meaning.{meant, recorded_own, recorded_other}
use Rattle.stores.proofs.Steps.{replayed_tight, tight_of, post_records}
use Rattle.stores.proofs.Lists.{removed_root}
use Rattle.stores.proofs.Cases.{grow_cases, list_cases, post_absent, post_idle, post_full, post_overflows, post_taken, post_cases, open_taken, open_many, synchronise_cases}
use Rattle.stores.proofs.History.{straight, back_law}

-- ---- refusals

-- two different answers: a contradiction
never : {A : Type 0} → ◌≡◌ {A = ℕ} 0 1 → A
never e = absurd (omega arith)

-- one law for every list of refusals, whatever an answer is that refuses
module _ {A : Type 0} (refused : Refusal → A) (answer : A) (told : (q r : Refusal) → refused q ≡ refused r → q ≡ r) (other : (r : Refusal) → answer ≡ refused r → ⊥) where
  first_holds : (gs : List Ground) (r : Refusal) → First gs r → decided refused gs answer ≡ refused r
  first_holds [] r none = elim none [ ]
  first_holds (g ∷ gs) r (First.here e) = rw e
  first_holds (g ∷ gs) r (First.later e f) = rw e (first_holds gs r f)

  holds_first : (gs : List Ground) (r : Refusal) → decided refused gs answer ≡ refused r → First gs r
  holds_first [] r e = absurd (other r e)
  holds_first (g ∷ gs) r e = go g.holds refl e (λ f. holds_first gs r f)
    where
      go : (b : Bool) → g.holds ≡ b → pick b (refused g.refusal) (decided refused gs answer) ≡ refused r → (decided refused gs answer ≡ refused r → First gs r) → First (g ∷ gs) r
      go true h f rest = subst (First (g ∷ gs)) (told g.refusal r f) (First.here h)
      go false h f rest = First.later h (rest f)

  exactly : (gs : List Ground) (r : Refusal) → (decided refused gs answer ≡ refused r) ↔ First gs r
  exactly gs r = (holds_first gs r, first_holds gs r)

pub refusal_law : RefusalLaw
unfolding grow_answer list_answer post_answer open_answer synchronise_answer
refusal_law = record {
  grow = λ s b r. exactly Err (new_variable s) (λ p q e. cc) (λ q e. never (cc)) (grow_grounds s (lt_z b.upper b.lower) 2) r;
  list = λ s vs r. exactly Err (new_variable s) (λ p q e. cc) (λ q e. never (cc)) (grow_grounds s (is_empty vs) (2 + length (missing vs))) r;
  post = λ s p r. exactly Err (Ok (does s p)) (λ a b e. cc) (λ q e. never (cc)) (post_grounds s p) r;
  open_next = λ s r. exactly Err (Ok (record { 0 = suc s.checkpoint })) (λ p q e. cc) (λ q e. never (cc)) (open_grounds s) r;
  synchronise = λ s k room r. exactly Err (Ok (length (unfixed (entries_above s k) s))) (λ p q e. cc) (λ q e. never (cc)) (synchronise_grounds s k room) r;
}

pub untouched_law : UntouchedLaw
unfolding grow_store list_store post_store open_store synchronise_store pairs_of
untouched_law = record {
  grow = λ s b r e. rw e;
  list = λ s vs r e. rw e;
  post = λ s p why r e h. rw (e, ne_eqb (number_of r) 7 h) (idle (does s p) s (posted s p why));
  open_next = λ s r e. rw e;
  synchronise = λ s k room r e. (rw e, rw e);
}
  where
    idle : (b : Bool) (s t : Assignments) → pick (b && false) t s ≡ s
    idle true s t = refl
    idle false s t = refl

pub room_law : RoomLaw
unfolding post_answer
room_law s t p a b c = λ i.
    decided Err
    (record { holds = leb (a i) p.domain.0; refusal = NoVariable }
    ∷ record { holds = ltb 1024 (c i + pick (acts p.kind p.value (b i)) 1 0); refusal = TrailFull }
    ∷ record { holds = acts p.kind p.value (b i) && overflows p.kind p.value (b i); refusal = StepOverflow }
    ∷ record { holds = emptied (after p.kind p.value (b i)); refusal = Empty }
    ∷ [])
    (Ok (acts p.kind p.value (b i)))

pub same_law : SameLaw
same_law = record {
  grow = λ s b r t p q i. record { answer = (p.0 ∙ sym q.0) i; store = (p.1 ∙ sym q.1) i };
  list = λ s vs r t p q i. record { answer = (p.0 ∙ sym q.0) i; store = (p.1 ∙ sym q.1) i };
  post = λ s a why r t p q i. record { answer = (p.0 ∙ sym q.0) i; store = (p.1 ∙ sym q.1) i };
  open_next = λ s r t p q i. record { answer = (p.0 ∙ sym q.0) i; store = (p.1 ∙ sym q.1) i };
  synchronise = λ s k room r t p q i. record { answer = (p.0 ∙ sym q.0) i; store = (p.1 ∙ sym q.1) i };
  look = λ p q. p ∙ sym q;
}

-- ---- posts

-- after a post that makes an entry, the domain is what the rules make of it
module _ (s : Assignments) (made : Made s) (p : Predicate) (why : Reason) (i : SFits w32 p.value) (there : p.domain.0 < s.domains) (acting : does s p ≡ true) (room : s.trail.length < 1024) (fits : overflows p.kind p.value (domain_before s p) ≡ false) where
  posted_own : domain_of (posted s p why) p.domain.0 ≡ after p.kind p.value (domain_before s p)
  unfolding posted
  posted_own =
      let k = post_records s (straight made) p why i there acting room fits in
      recorded_own s p why _ _ _ (tidy (straight made)) (meant (straight made)) k ∙ k.rule

  posted_other : (y : ℕ) → y ≢ p.domain.0 → domain_of (posted s p why) y ≡ domain_of s y
  unfolding posted
  posted_other = recorded_other s p why _ _ _ (tidy (straight made)) (meant (straight made)) (post_records s (straight made) p why i there acting room fits)

-- what a post does, case by case: a statement about answer and store holds if it holds in each case
module _ (s : Assignments) (made : Made s) (p : Predicate) (why : Reason) (P : Result Bool Refusal → Assignments → Type 0) where
  post_split :
      (s.domains ≤ p.domain.0 → P (Err NoVariable) s) →
      (p.domain.0 < s.domains → does s p ≡ false → P (pick (emptied (domain_before s p)) (Err Empty) (Ok false)) s) →
      (p.domain.0 < s.domains → does s p ≡ true → 1024 ≤ s.trail.length → P (Err TrailFull) s) →
      (p.domain.0 < s.domains → does s p ≡ true → s.trail.length < 1024 → overflows p.kind p.value (domain_before s p) ≡ true → P (Err StepOverflow) s) →
      (p.domain.0 < s.domains → does s p ≡ true → s.trail.length < 1024 → overflows p.kind p.value (domain_before s p) ≡ false → P (pick (emptied (moved p.kind p.value (domain_before s p))) (Err Empty) (Ok true)) (posted s p why)) →
      P (post_answer s p) (post_store s p why)
  post_split absent idle full over takes = go (leb s.domains p.domain.0) refl (does s p) refl (leb 1024 s.trail.length) refl (overflows p.kind p.value (domain_before s p)) refl
    where
      long : s.trail.length ≤ 1024
      long = (tidy (straight made)).entries

      is : {a : Result Bool Refusal} {t : Assignments} → (a ≡ post_answer s p) × (t ≡ post_store s p why) → P a t → P (post_answer s p) (post_store s p why)
      is {a} {t} e h = subst (P (post_answer s p)) e.1 (subst (λ (z : Result Bool Refusal). P z t) e.0 h)

      go : (a : Bool) → leb s.domains p.domain.0 ≡ a → (b : Bool) → does s p ≡ b → (c : Bool) → leb 1024 s.trail.length ≡ c → (d : Bool) → overflows p.kind p.value (domain_before s p) ≡ d → P (post_answer s p) (post_store s p why)
      go true e b f c g d h = is (post_absent s p why (leb-true _ _ e)) (absent (leb-true _ _ e))
      go false e false f c g d h = is (post_idle s p why (leb-false _ _ e) f long) (idle (leb-false _ _ e) f)
      go false e true f true g d h = is (post_full s p why (leb-false _ _ e) f (leb-true _ _ g)) (full (leb-false _ _ e) f (leb-true _ _ g))
      go false e true f false g true h = is (post_overflows s p why (leb-false _ _ e) f (leb-false _ _ g) h) (over (leb-false _ _ e) f (leb-false _ _ g) h)
      go false e true f false g false h = is (post_taken s p why (leb-false _ _ e) f (leb-false _ _ g) h) (takes (leb-false _ _ e) f (leb-false _ _ g) h)

pub set_law : SetLaw
set_law s made p why i =
    post_split s made p why (λ (a : Result Bool Refusal) (t : Assignments). keeps a ≡ true → ((v : ℤ) → member (domain_of t p.domain.0) v ≡ (member (domain_before s p) v && satisfies p.kind p.value v)) × ((y : ℕ) → y ≢ p.domain.0 → domain_of t y ≡ domain_of s y))
    (λ h k. clash k refl)
    (λ h e k. (λ v. ap (λ (d : Domain). member d v) (sym (Domains.after_idle p.kind p.value (domain_before s p) e)) ∙ Domains.set_law p.kind p.value (domain_before s p) v, λ y n. refl))
    (λ h e l k. clash k refl)
    (λ h e l o k. clash k refl)
    (λ h e l o k. (λ v. ap (λ (d : Domain). member d v) (posted_own s made p why i h e l o) ∙ Domains.set_law p.kind p.value (domain_before s p) v, posted_other s made p why i h e l o))

pub bounds_law : BoundsLaw
bounds_law s made x h = let t = tight_of s (straight made) x h in (t, Domains.empty_law (domain_of s x) t)

-- ---- what a post answers where the set before was not empty

module _ (s : Assignments) (made : Made s) (p : Predicate) (there : p.domain.0 < s.domains) (some : emptied (domain_before s p) ≡ false) where
  d : Domain
  d = domain_before s p

  tight : Tight d
  unfolding d
  tight = tight_of s (straight made) p.domain.0 there

  -- the post does something exactly where something is lost
  shrinks : (does s p ≡ true) ↔ Lost s p
  unfolding d
  shrinks = Domains.shrink_law p.kind p.value d tight some

  -- something is left exactly where the domain after is not emptied
  left_over : SomeLeft s p → emptied (after p.kind p.value d) ≡ false
  unfolding d
  left_over w = by_cases (emptied (after p.kind p.value d))
      (λ e. clash (Domains.set_law p.kind p.value d w.0 ∙ rw (w.1, w.2)) ((Domains.empty_law (after p.kind p.value d) (Domains.tight_law p.kind p.value d tight)).0 e w.0))
      (λ e. e)

  least_left : emptied (after p.kind p.value d) ≡ false → SomeLeft s p
  unfolding d
  least_left e =
      let e' : Domain = after p.kind p.value d in
      let in' = (Domains.tight_law p.kind p.value d tight).least (omega integers) in
      let w = both (member d e'.lower) (satisfies p.kind p.value e'.lower) (sym (Domains.set_law p.kind p.value d e'.lower) ∙ in') in
      (e'.lower, w.0, w.1)

  -- an overflow leaves nothing
  over_none : overflows p.kind p.value d ≡ true → SomeLeft s p → ⊥
  unfolding d
  over_none e w = go p.kind e w.2
    where
      go : (k : PredicateType) → overflows k p.value d ≡ true → satisfies k p.value w.0 ≡ true → ⊥
      go NotEqual o t =
          let low = both (eq_z p.value d.lower) _ o in
          let high = both (eq_z p.value d.upper) _ low.1 in
          let in' = left d w.0 w.1 in
          clash t (ap not (→eq_t w.0 p.value (omega (integers, low.0, high.0))))
      go LowerBound o t = clash o refl
      go Equal o t = clash o refl
      go UpperBound o t = clash o refl

  Idle : Result Bool Refusal → Type 0
  Idle a = (a ≡ (Ok false)) ↔ (Lost s p → ⊥)

  unchanged_law : (why : Reason) → Idle (post_answer s p)
  unfolding Idle d
  unchanged_law why =
      post_split s made p why (λ (a : Result Bool Refusal) (t : Assignments). Idle a)
      (λ h. absurd (omega arith))
      (λ h e. rw some (λ q l. clash (shrinks.1 l) e, λ q. refl))
      (λ h e l. (λ q. never (cc), λ q. absurd (q (shrinks.0 e))))
      (λ h e l o. (λ q. never (cc), λ q. absurd (q (shrinks.0 e))))
      (λ h e l o. (λ q. never (not_idle (emptied (moved p.kind p.value d)) q), λ q. absurd (q (shrinks.0 e))))
    where
      not_idle : (b : Bool) → pick b (Err Empty) (Ok true) ≡ (Ok false) → ◌≡◌ {A = ℕ} 0 1
      not_idle true q = cc
      not_idle false q = cc

  Changes : Result Bool Refusal → Type 0
  Changes a = (a ≡ (Ok true)) ↔ (Lost s p × SomeLeft s p × (s.trail.length < 1024))

  changed_law : (why : Reason) → Changes (post_answer s p)
  unfolding Changes d
  changed_law why =
      post_split s made p why (λ (a : Result Bool Refusal) (t : Assignments). Changes a)
      (λ h. absurd (omega arith))
      (λ h e. rw some (λ q. never (cc), λ q. clash (shrinks.1 q.0) e))
      (λ h e l. (λ q. never (cc), λ q. absurd (omega arith)))
      (λ h e l o. (λ q. never (cc), λ q. absurd (over_none o q.1)))
      (λ h e l o. (λ q. (shrinks.0 e, least_left (rw (Domains.after_moved p.kind p.value d e) (kept (emptied (moved p.kind p.value d)) q)), l), λ q. rw (rw (Domains.after_moved p.kind p.value d e) at (left_over q.1))))
    where
      kept : (b : Bool) → pick b (Err Empty) (Ok true) ≡ (Ok true) → b ≡ false
      kept true q = never (cc)
      kept false q = refl

  Empties : Result Bool Refusal → Type 0
  Empties a = (a ≡ Err Empty) ↔ ((SomeLeft s p → ⊥) × (s.trail.length < 1024) × (overflows p.kind p.value (domain_before s p) ≡ false))

  -- where nothing is left, something is lost: the least value before
  all_lost : (SomeLeft s p → ⊥) → Lost s p
  unfolding d
  all_lost h =
      let in' = tight.least (omega integers) in
      by_cases (satisfies p.kind p.value d.lower) (λ e. absurd (h (d.lower, in', e))) (λ e. (d.lower, in', e))

  emptied_law : (why : Reason) → Empties (post_answer s p)
  unfolding Empties d
  emptied_law why =
      post_split s made p why (λ (a : Result Bool Refusal) (t : Assignments). Empties a)
      (λ h. absurd (omega arith))
      (λ h e. rw some (λ q. never (cc), λ q. clash (shrinks.1 (all_lost q.0)) e))
      (λ h e l. (λ q. never (cc), λ q. absurd (omega arith)))
      (λ h e l o. (λ q. never (cc), λ q. clash o q.2))
      (λ h e l o. (
        λ q. (λ w. clash (gone (emptied (moved p.kind p.value d)) q) (rw (Domains.after_moved p.kind p.value d e) at (left_over w)), l, o),
        λ q. by_cases (emptied (moved p.kind p.value d)) (λ f. rw f) (λ f. absurd (q.0 (least_left (rw (Domains.after_moved p.kind p.value d e) f)))),
      ))
    where
      gone : (b : Bool) → pick b (Err Empty) (Ok true) ≡ Err Empty → b ≡ true
      gone true q = refl
      gone false q = never (cc)

-- the rules' number tells the answer
is_unchanged : (a : Result Bool Refusal) → told_of a ≡ ok 0 → a ≡ (Ok false)
is_unchanged (Ok true) q = never (cc)
is_unchanged (Ok false) q = refl
is_unchanged (Err r) q = never (cc)

is_changed : (a : Result Bool Refusal) → told_of a ≡ ok 1 → a ≡ (Ok true)
is_changed (Ok true) q = refl
is_changed (Ok false) q = never (cc)
is_changed (Err r) q = never (cc)

is_emptied : (a : Result Bool Refusal) → told_of a ≡ refused 7 → a ≡ Err Empty
is_emptied (Ok true) q = never (cc)
is_emptied (Ok false) q = never (cc)
is_emptied (Err NoVariable) q = never (cc)
is_emptied (Err NotRoot) q = never (cc)
is_emptied (Err BadDomain) q = never (cc)
is_emptied (Err TooManyVariables) q = never (cc)
is_emptied (Err TrailFull) q = never (cc)
is_emptied (Err StepOverflow) q = never (cc)
is_emptied (Err Empty) q = refl
is_emptied (Err TooManyCheckpoints) q = never (cc)
is_emptied (Err NotLower) q = never (cc)
is_emptied (Err NoRoom) q = never (cc)
is_emptied (Err NoSuchEntry) q = never (cc)
is_emptied (Err NoDecision) q = never (cc)
is_emptied (Err NoReason) q = never (cc)

-- the number in place of the answer
by_number : {a b : Result Bool Refusal} {X : Type 0} → (told_of a ≡ told_of b → a ≡ b) → (a ≡ b) ↔ X → (told_of a ≡ told_of b) ↔ X
by_number tells h = (λ q. h.0 (tells q), λ x. ap told_of (h.1 x))

-- a post that is taken puts its entry at the trail's end
Entered : Assignments → Predicate → Reason → Assignments → Type 0
Entered s p why t =
    (t.trail.length ≡ suc s.trail.length)
    × (entry_of t s.trail.length ≡ record { predicate = p; old = (variable_of s p.domain.0).bounds; reason = why })

posted_enters : (s : Assignments) → Made s → (p : Predicate) (why : Reason) → s.trail.length < 1024 → Entered s p why (posted s p why)
unfolding posted recorded Entered
posted_enters s made p why room =
    (refl, get_or-set_same s.trail.entries s.trail.length _ no_entry (omega (arith, (tidy (straight made)).long_trail, room)))

pub answer_law : AnswerLaw
unfolding post_store Idle Changes Empties Entered
answer_law = record {
  unchanged = λ s made p there some. by_number (is_unchanged (post_answer s p)) (unchanged_law s made p there some None);
  no_entry = λ s made p why q.
      post_split s made p why (λ (a : Result Bool Refusal) (t : Assignments). a ≡ (Ok false) → t ≡ s)
      (λ h e. refl) (λ h f e. refl) (λ h f l e. refl) (λ h f l o e. refl)
      (λ h f l o e. never (taken (emptied (moved p.kind p.value (domain_before s p))) e))
      (is_unchanged (post_answer s p) q);
  one_entry = λ s made p why q.
      let one : Entered s p why (post_store s p why) =
      post_split s made p why (λ (a : Result Bool Refusal) (t : Assignments). a ≡ (Ok true) → Entered s p why t)
      (λ h e. never (cc)) (λ h f e. never (idle (emptied (domain_before s p)) e)) (λ h f l e. never (cc)) (λ h f l o e. never (cc))
      (λ h f l o e. posted_enters s made p why l)
      (is_changed (post_answer s p) q)
      in
      (one.0, rw one.1, rw one.1, rw one.1);
  changed = λ s made p there some. by_number (is_changed (post_answer s p)) (changed_law s made p there some None);
  emptied_by = λ s made p there some. by_number (is_emptied (post_answer s p)) (emptied_law s made p there some None);
}
  where
    taken : (b : Bool) → pick b (Err Empty) (Ok true) ≡ (Ok false) → ◌≡◌ {A = ℕ} 0 1
    taken true q = cc
    taken false q = cc

    idle : (b : Bool) → pick b (Err Empty) (Ok false) ≡ (Ok true) → ◌≡◌ {A = ℕ} 0 1
    idle true q = cc
    idle false q = cc

-- ---- the trail

-- the replay by the rules and the replay of a single value agree, by the set law
member_replayed : (es : List Entry) (x : ℕ) (start : Bounds) (v : ℤ) (n : ℕ) → member (replayed es x start n) v ≡ remains es x start v n
unfolding replayed remains
member_replayed es x start v zero = ap (λ (b : Bool). le_z start.lower v && b) (whole (le_z v start.upper))
  where
    whole : (b : Bool) → (b && true) ≡ b
    whole true = refl
    whole false = refl
member_replayed es x start v (suc n) = go (on x (get_or es n no_entry)) (member_replayed es x start v n)
  where
    e : Entry
    e = get_or es n no_entry

    go : (b : Bool) → member (replayed es x start n) v ≡ remains es x start v n → member (pick b (after e.predicate.kind e.predicate.value (replayed es x start n)) (replayed es x start n)) v ≡ (remains es x start v n && pick b (satisfies e.predicate.kind e.predicate.value v) true)
    go true h = Domains.set_law e.predicate.kind e.predicate.value (replayed es x start n) v ∙ ap (λ (b : Bool). b && satisfies e.predicate.kind e.predicate.value v) h
    go false h = h ∙ sym (whole (remains es x start v n))
      where
        whole : (b : Bool) → (b && true) ≡ b
        whole true = refl
        whole false = refl

pub replay_law : ReplayLaw
replay_law s made x h v = ap (λ (d : Domain). member d v) ((meant (straight made)).now x h) ∙ member_replayed s.trail.entries x (variable_of s x).initial v s.trail.length

pub position_law : PositionLaw
position_law s made x p h =
    let m = meant (straight made) in
    let then' = m.then' x p h in (
      λ v. ap (λ (d : Domain). member d v) then' ∙ member_replayed s.trail.entries x (variable_of s x).initial v (min (suc p) s.trail.length),
      subst Tight (sym then') (replayed_tight s.trail.entries x (variable_of s x).initial (min (suc p) s.trail.length) (m.proper x h)),
      λ l. let all : min (suc p) s.trail.length ≡ s.trail.length = omega arith in then' ∙ rw all (sym (m.now x h)),
    )

pub count_law : CountLaw
count_law s made = let m = meant (straight made) in (m.count, omega (arith, m.small, (tidy (straight made)).entries))

-- ---- going back

-- the checkpoint after a call that neither opens nor goes back is the one before
grow_stays : (s : Assignments) (b : Bounds) → (grow_store s b).checkpoint ≡ s.checkpoint
unfolding grown recorded allocated
grow_stays s b = grow_cases s b (λ (t : Assignments). t.checkpoint ≡ s.checkpoint) refl (λ root some few room. refl)

list_stays : (s : Assignments) (vs : List ℤ) → (list_store s vs).checkpoint ≡ s.checkpoint
unfolding listed marked grown recorded allocated
list_stays s vs = list_cases s vs (λ (t : Assignments). t.checkpoint ≡ s.checkpoint) refl (λ root some few room. removed_root (missing vs) (grown s (span_of vs)) s.domains)

post_stays : (s : Assignments) → Made s → (p : Predicate) (why : Reason) → (post_store s p why).checkpoint ≡ s.checkpoint
unfolding posted recorded
post_stays s made p why = post_cases s p why (λ (t : Assignments). t.checkpoint ≡ s.checkpoint) (tidy (straight made)).entries refl (λ there acting room fits. refl)

synchronise_lowers : (s : Assignments) (k room : ℕ) → (synchronise_store s k room).checkpoint ≤ s.checkpoint
unfolding synchronised
synchronise_lowers s k room = synchronise_cases s k room (λ (t : Assignments). t.checkpoint ≤ s.checkpoint) (omega arith) (λ lower. omega arith)

open_raises : (s : Assignments) → s.checkpoint < 256 → (open_store s).checkpoint ≡ suc s.checkpoint
unfolding opened
open_raises s h = ap (λ (t : Assignments). t.checkpoint) (sym (open_taken s h).1)

-- a store that is at checkpoint k, with t since it opened the next
abbrev Opener : Assignments → ℕ → Type 0
Opener t k = (m : Assignments) × Made m × (m.checkpoint ≡ k) × Since m t

opener : {s : Assignments} → Made s → (k : ℕ) → k < s.checkpoint → Opener s k
unfolding fresh grown recorded allocated bare
opener Made.fresh k h = absurd (omega arith)
opener (Made.grow {s = s} q b i) k h =
    let w = opener q k (omega (arith, grow_stays s b)) in (w.0, w.1, w.2, Since.grow w.3 b i)
opener (Made.list {s = s} q vs i) k h =
    let w = opener q k (omega (arith, list_stays s vs)) in (w.0, w.1, w.2, Since.list w.3 vs i)
opener (Made.post {s = s} q p why i) k h =
    let w = opener q k (omega (arith, post_stays s q p why)) in (w.0, w.1, w.2, Since.post w.3 p why i)
opener (Made.open_next {s = s} q) k h = go (ltb k s.checkpoint) refl (leb 256 s.checkpoint) refl (λ l. opener q k l)
  where
    go : (b : Bool) → ltb k s.checkpoint ≡ b → (c : Bool) → leb 256 s.checkpoint ≡ c → (k < s.checkpoint → Opener s k) → Opener (open_store s) k
    go true e c f before = let w = before (ltb-true k s.checkpoint e) in (w.0, w.1, w.2, Since.open_more w.3)
    go false e true f before = absurd (omega (arith, ltb-false k s.checkpoint e, ap (λ (t : Assignments). t.checkpoint) (open_many s (leb-true _ _ f)).1))
    go false e false f before = (s, q, omega (arith, ltb-false k s.checkpoint e, open_raises s (leb-false _ _ f)), Since.open_next (leb-false _ _ f))
opener (Made.synchronise {s = s} q j room) k h =
    let w = opener q k (omega (arith, synchronise_lowers s j room)) in
    (w.0, w.1, w.2, Since.synchronise w.3 j room (omega (arith, w.2)))

pub opened_law : OpenedLaw
opened_law s made k h = opener made k h

pub back_promise : BackLaw
back_promise = back_law
