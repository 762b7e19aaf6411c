-- The parts of a command that are more than a number (RULES.md, D5). Assumes nothing.
use Rattle.std.specs.Prelude.{ℕ, cond, List, [], get_or, ℤ, Option, Some, None, option_map}
use Rattle.predicates.specs.declared.Predicate.{Predicate}
use Rattle.predicates.specs.declared.PredicateType.{PredicateType}
use Rattle.predicates.specs.declared.PredicateType.TheVariants.{LowerBound, NotEqual, Equal, UpperBound}
use Rattle.predicates.specs.declared.Reason.{Reason}
use Rattle.predicates.specs.declared.Reason.TheVariants as reason
use Rattle.predicates.specs.Counts.{counted}
use Rattle.lines.specs.Fields.{same_bytes}
use Rattle.lines.specs.Reading.{read_natural, read_integer}
use Rattle.commands.specs.declared.parts.Claim.{Claim}
use Rattle.commands.specs.Words.{word_of, dash}

-- the kind whose word a text is
abbrev pub read_kind : List ℕ → Option PredicateType
read_kind text =
    cond (same_bytes text (word_of LowerBound)) (Some LowerBound)
    (cond (same_bytes text (word_of NotEqual)) (Some NotEqual)
    (cond (same_bytes text (word_of Equal)) (Some Equal)
    (cond (same_bytes text (word_of UpperBound)) (Some UpperBound)
    None)))

-- the reason with the number that was read
abbrev pub given_of : Option ℕ → Option Reason
given_of number = option_map reason.Given number

-- the reason that a text spells
abbrev pub read_reason : List ℕ → Option Reason
read_reason text = cond (same_bytes text dash) (Some reason.None) (given_of (read_natural text))

-- the predicate on the variable that a claim names by its number
abbrev pub predicate_of : Claim → Predicate
predicate_of claim = record { domain = record { 0 = counted claim.id }; kind = claim.kind; value = claim.value }

-- the claim of three parts, if each could be read
abbrev pub claim_of : Option ℕ → Option PredicateType → Option ℤ → Option Claim
claim_of None k v = None
claim_of (Some id) None v = None
claim_of (Some id) (Some k) None = None
claim_of (Some id) (Some k) (Some v) = Some (record { id = id; kind = k; value = v })

-- the text at a place of a line's fields; the command's word is at 0
abbrev pub text_at : List (List ℕ) → ℕ → List ℕ
text_at texts place = get_or texts place []

-- the claim whose fields are at three places
abbrev pub claim_at : List (List ℕ) → ℕ → ℕ → ℕ → Option Claim
claim_at texts id kind value = claim_of (read_natural (text_at texts id)) (read_kind (text_at texts kind)) (read_integer (text_at texts value))
