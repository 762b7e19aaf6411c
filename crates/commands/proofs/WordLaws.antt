-- The word of a kind is read as that kind and no other text is, since the four words differ and are compared byte by byte.
use Prim.Native.Nat.{ℕ}
use mathlib.Core.Path.{◌≡◌, refl, ap, ◌∙◌}
use mathlib.Core.Bool.{cond, false}
use mathlib.Core.List.{List}
use mathlib.Core.Logic.{⊎_elim}
use lib.ListN.{length}
use Rattle.predicates.specs.declared.PredicateType.{PredicateType}
use Rattle.predicates.specs.declared.PredicateType.TheVariants.{LowerBound, NotEqual, Equal, UpperBound}
use Rattle.lines.specs.Fields.{same_bytes}
use Rattle.lines.proofs.Cases.{true_or_false}
use Rattle.lines.proofs.NaturalLaws.{no_number}
use Rattle.lines.proofs.WordLaws.{same_is_equal, different_is_not_same}
use Rattle.std.specs.Prelude.{Option, Some, None}
use Rattle.commands.specs.Words.{word_of}
use Rattle.commands.specs.Parts.{read_kind}

-- the word of a kind is read as that kind
pub kind_of_word : (k : PredicateType) → read_kind (word_of k) ≡ Some k
kind_of_word LowerBound = refl
kind_of_word NotEqual = refl
kind_of_word Equal = refl
kind_of_word UpperBound = refl

module _ (text : List ℕ) (k : PredicateType) where
  -- if the text is no word of j, what is read of it stands further on
  either : (j : PredicateType) {other : Option PredicateType} → (other ≡ Some k → text ≡ word_of k) → cond (same_bytes text (word_of j)) (Some j) other ≡ Some k → text ≡ word_of k
  either j later e =
      ⊎_elim
      (λ same. let found : Some j ≡ Some k = rw same at e in let this : j ≡ k = cc in same_is_equal text (word_of j) same ∙ ap word_of this)
      (λ differs. later (rw differs at e))
      (true_or_false (same_bytes text (word_of j)))

  -- what is read as a kind is its word
  pub word_of_kind : read_kind text ≡ Some k → text ≡ word_of k
  word_of_kind =
      either LowerBound (either NotEqual (either Equal (either UpperBound (λ e. absurd (no_number e)))))

-- a text that is not as long as a word is not the word
pub other_length : (text word : List ℕ) → (length text ≡ length word → ⊥) → same_bytes text word ≡ false
other_length text word differs = different_is_not_same text word (λ same. differs (ap length same))

-- a text of another length than two is the word of no kind
pub unknown_kind : (text : List ℕ) → (length text ≡ 2 → ⊥) → read_kind text ≡ None
unknown_kind text differs =
    rw (other_length text (word_of LowerBound) differs, other_length text (word_of NotEqual) differs, other_length text (word_of Equal) differs, other_length text (word_of UpperBound) differs) refl
