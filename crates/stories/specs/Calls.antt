-- The calls that change a store: what refuses each, what it does to the story and what it answers (RULES.md, "Refusal numbers",
-- "Creating", "Posts", "Synchronise"). Assumes nothing.
use Rattle.std.specs.Prelude.{ℕ, zero, suc, ◌+◌, ◌-◌, ◌<◌, Bool, true, false, ◌&&◌, List, [], ◌∷◌, ◌++◌, map, ℤ, pos, length, get_or, take, drop, Result, Ok, Err, ltb, leb, eqb}
use Rattle.std.proofs.Math.IntN.{suc_ℤ}
use Rattle.std.specs.Int.Signed.{lt_z}
use Rattle.std.specs.Int.{w32}
use Rattle.std.proofs.Common.{SFits}
use Rattle.predicates.specs.declared.Checkpoint.{Checkpoint}
use Rattle.predicates.specs.declared.DomainId.{DomainId}
use Rattle.predicates.specs.declared.Predicate.{Predicate}
use Rattle.predicates.specs.declared.PredicateType.TheVariants.{LowerBound, NotEqual, UpperBound}
use Rattle.predicates.specs.declared.Reason.TheVariants.{None}
use Rattle.domains.specs.declared.Bounds.{Bounds}
use Rattle.domains.specs.Choice.{pick}
use Rattle.domains.specs.Domain.{Domain, has, emptied, width, acts, overflows, after}
use Rattle.stories.specs.declared.Post.{Post}
use Rattle.stories.specs.declared.Entry.{Entry}
use Rattle.stories.specs.declared.Refusal.{Refusal}
use Rattle.stories.specs.declared.Refusal.TheVariants.{NoVariable, NotRoot, BadDomain, TooManyVariables, TrailFull, StepOverflow, Empty, TooManyCheckpoints, NotLower, NoRoom}
use Rattle.stories.specs.Capacities.{max_variables, max_entries, max_checkpoints}
use Rattle.stories.specs.Refusals.{number_of, Ground, ground, decided}
use Rattle.stories.specs.Story.{Story, State, bounds_of, domain_now, pruned, start_above, entries_above, Pair, pairs_above}

-- a creation from bounds or from a list, a post, a new checkpoint, and a synchronise to a checkpoint with so much room for pairs
pub data Call : Type 0 where
  grow : Bounds → Call
  list : List ℤ → Call
  post : Post → Call
  new_checkpoint : Call
  synchronise : ℕ → ℕ → Call

-- the values that a call brings are i32
abbrev pub FromI32 : Call → Type 0
FromI32 (Call.grow b) = SFits w32 b.lower × SFits w32 b.upper
FromI32 (Call.list vs) = (i : ℕ) → SFits w32 (get_or vs i (pos 0))
FromI32 (Call.post p) = SFits w32 p.predicate.value
FromI32 Call.new_checkpoint = Unit {0}
FromI32 (Call.synchronise k room) = Unit {0}

-- ---- creating

-- the predicates of a creation
abbrev pub at_least : ℕ → ℤ → Predicate
at_least x v = record { domain = record { 0 = x }; kind = LowerBound; value = v }

abbrev pub at_most : ℕ → ℤ → Predicate
at_most x v = record { domain = record { 0 = x }; kind = UpperBound; value = v }

abbrev pub not_equal : ℕ → ℤ → Predicate
not_equal x v = record { domain = record { 0 = x }; kind = NotEqual; value = v }

-- the smallest and the largest of a list that is not empty
abbrev pub smallest : ℤ → List ℤ → ℤ
smallest a [] = a
smallest a (b ∷ bs) = smallest (pick (lt_z b a) b a) bs

abbrev pub largest : ℤ → List ℤ → ℤ
largest a [] = a
largest a (b ∷ bs) = largest (pick (lt_z a b) b a) bs

abbrev pub span_of : List ℤ → Bounds
span_of [] = record { lower = pos 0; upper = pos 0 }
span_of (v ∷ vs) = record { lower = smallest v vs; upper = largest v vs }

-- of the n values from v on, those that are not listed, in rising order
unfoldable pub unlisted : List ℤ → ℕ → ℤ → List ℤ
unlisted vs zero v = []
unlisted vs (suc n) v = pick (has vs v) (unlisted vs n (suc_ℤ v)) (v ∷ unlisted vs n (suc_ℤ v))

-- the values between the smallest and the largest that are not listed
abbrev pub missing : List ℤ → List ℤ
missing vs = unlisted vs (width (span_of vs).lower (span_of vs).upper) (span_of vs).lower

abbrev pub is_empty : List ℤ → Bool
is_empty [] = true
is_empty (v ∷ vs) = false

-- an entry of a creation has the new bounds as old bounds, and no reason
abbrev pub unexplained : Bounds → Predicate → Entry
unexplained b p = record { predicate = p; old = b; reason = None }

-- the entries that create variable x: "at least lower", "at most upper", and "not v" for each value that is removed (C2, C6)
abbrev pub creation : ℕ → Bounds → List ℤ → List Entry
creation x b gone = map (unexplained b) (at_least x b.lower ∷ at_most x b.upper ∷ map (not_equal x) gone)

-- a variable more; its mark is the last entry's position
abbrev pub created : Story → Bounds → List ℤ → Story
created t b gone = record {
  variables = t.variables ++ (record { start = b; mark = length t.entries + (1 + length gone) } ∷ []);
  entries = t.entries ++ creation (length t.variables) b gone;
  opens = t.opens;
}

-- ---- posts

-- the domain of the predicate's variable, and whether the post does something to it
abbrev pub domain_before : Story → Predicate → Domain
domain_before t p = domain_now t p.domain.0

abbrev pub acting : Story → Predicate → Bool
acting t p = acts p.kind p.value (domain_before t p)

-- an entry more, with the bounds before
abbrev pub entered : Story → Post → Story
entered t p = record {
  variables = t.variables;
  entries = t.entries ++ (record { predicate = p.predicate; old = bounds_of (domain_before t p.predicate); reason = p.reason } ∷ []);
  opens = t.opens;
}

-- ---- checkpoints

-- a checkpoint more
abbrev pub opened : Story → Story
opened t = record { variables = t.variables; entries = t.entries; opens = t.opens ++ (length t.entries ∷ []) }

-- the trail cut at the start of checkpoint k + 1
abbrev pub cut : Story → ℕ → Story
cut t k = record { variables = t.variables; entries = take (start_above t k) t.entries; opens = take k t.opens }

-- ---- the calls

-- 2, 3, 4, 5; `bad` says that there is no domain, `needed` how many entries there are to be
abbrev pub creation_grounds : Story → Bool → ℕ → List Ground
creation_grounds t bad needed =
    ground NotRoot (ltb 0 (length t.opens))
    ∷ ground BadDomain bad
    ∷ ground TooManyVariables (leb max_variables (length t.variables))
    ∷ ground TrailFull (ltb max_entries (length t.entries + needed))
    ∷ []

-- what refuses a call, in order; a post that does nothing needs no entry
abbrev pub grounds : Story → Call → List Ground
grounds t (Call.grow b) = creation_grounds t (lt_z b.upper b.lower) 2
grounds t (Call.list vs) = creation_grounds t (is_empty vs) (2 + length (missing vs))
grounds t (Call.post p) =
    ground NoVariable (leb (length t.variables) p.predicate.domain.0)
    ∷ ground TrailFull (ltb max_entries (length t.entries + pick (acting t p.predicate) 1 0))
    ∷ ground StepOverflow (acting t p.predicate && overflows p.predicate.kind p.predicate.value (domain_before t p.predicate))
    ∷ ground Empty (emptied (after p.predicate.kind p.predicate.value (domain_before t p.predicate)))
    ∷ []
grounds t Call.new_checkpoint = ground TooManyCheckpoints (leb max_checkpoints (length t.opens)) ∷ []
grounds t (Call.synchronise k room) = ground NotLower (leb (length t.opens) k) ∷ ground NoRoom (ltb room (entries_above t k)) ∷ []

-- what a call does that is not refused
abbrev pub done : Story → Call → Story
done t (Call.grow b) = created t b []
done t (Call.list vs) = created t (span_of vs) (missing vs)
done t (Call.post p) = pick (acting t p.predicate) (entered t p) t
done t Call.new_checkpoint = opened t
done t (Call.synchronise k room) = cut t k

-- the story after a call: refusal 7 keeps its entry, and any other leaves all as it was (R4)
unfoldable pub next : Story → Call → Story
next t c = decided (λ (r : Refusal). pick (eqb (number_of r) 7) (done t c) t) (grounds t c) (done t c)

-- the count goes with the trail: it gains what entries that come add, and loses what entries that go had added (P12, S4)
unfoldable pub next_state : State → Call → State
next_state s c = record { story = next s.story c; count = s.count + pruned (next s.story c) - pruned s.story }

-- what each call answers that is not refused: the new variable's number, whether something changed, the new checkpoint's number, how
-- many pairs there are
abbrev pub Answer : Call → Type 0
Answer (Call.grow b) = Result DomainId Refusal
Answer (Call.list vs) = Result DomainId Refusal
Answer (Call.post p) = Result Bool Refusal
Answer Call.new_checkpoint = Result Checkpoint Refusal
Answer (Call.synchronise k room) = Result ℕ Refusal

unfoldable pub answer : Story → (c : Call) → Answer c
answer t (Call.grow b) = decided Err (grounds t (Call.grow b)) (Ok (record { 0 = length t.variables }))
answer t (Call.list vs) = decided Err (grounds t (Call.list vs)) (Ok (record { 0 = length t.variables }))
answer t (Call.post p) = decided Err (grounds t (Call.post p)) (Ok (acting t p.predicate))
answer t Call.new_checkpoint = decided Err (grounds t Call.new_checkpoint) (Ok (record { 0 = suc (length t.opens) }))
answer t (Call.synchronise k room) = decided Err (grounds t (Call.synchronise k room)) (Ok (length (pairs_above t k)))

-- the pairs that a synchronise writes: none if it is refused
unfoldable pub pairs_of : Story → ℕ → ℕ → List Pair
pairs_of t k room = decided (λ (r : Refusal). []) (grounds t (Call.synchronise k room)) (pairs_above t k)

-- a lent slice after a call: the first places are written, the later ones keep their content
abbrev pub written : {A : Type 0} → List A → List A → List A
written vs slice = vs ++ drop (length vs) slice

abbrev pub variables_in : List Pair → List ℕ
variables_in ps = map (λ (p : Pair). p.variable) ps

abbrev pub lowers_in : List Pair → List ℤ
lowers_in ps = map (λ (p : Pair). p.lower) ps

-- ---- the stories that calls make

-- a fresh store: variable 0 with bounds 1 to 1, and count 0 (H11)
abbrev pub fresh_story : Story
fresh_story = created (record { variables = []; entries = []; opens = [] }) (record { lower = pos 1; upper = pos 1 }) []

-- from a fresh store, by calls on any arguments, refused ones included
pub data Lived : Story → Type 0 where
  fresh : Lived fresh_story
  call : {t : Story} → Lived t → (c : Call) → FromI32 c → Lived (next t c)

-- t comes of m by opening the checkpoint above m's, and by calls none of which goes back to m's checkpoint
pub data Since (m : Story) : Story → Type 0 where
  begun : length m.opens < max_checkpoints → Since m (next m Call.new_checkpoint)
  call : {t : Story} → Since m t → (c : Call) → length m.opens < length (next t c).opens → Since m (next t c)
