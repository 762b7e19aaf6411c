-- What a line is answered, from what its call answered (RULES.md, D6 and D9). Assumes nothing.
use Rattle.std.specs.Prelude.{ℕ, Bool, Option, Result, Ok, Err}
use Rattle.domains.specs.Choice.{pick}
use Rattle.predicates.specs.declared.Checkpoint.{Checkpoint}
use Rattle.predicates.specs.declared.DomainId.{DomainId}
use Rattle.stories.specs.declared.Refusal.{Refusal}
use Rattle.stories.specs.Refusals.{number_of}
use Rattle.replies.specs.declared.answers.Reply.{Reply}
use Rattle.replies.specs.declared.answers.Reply.TheVariants as reply
use Rattle.replies.specs.declared.answers.LineRefusal.{LineRefusal}
use Rattle.replies.specs.declared.answers.LineRefusal.TheVariants as line

-- a line that cannot be read is 14, and a call that is refused is its refusal's number
abbrev pub line_number : LineRefusal → ℕ
line_number line.BadLine = 14
line_number (line.Call r) = number_of r

-- a call is answered by what it gives, or by its refusal
abbrev pub answered : {A : Type 0} → (A → Reply) → Result A Refusal → Result Reply LineRefusal
answered told (Ok given) = Ok (told given)
answered told (Err r) = Err (line.Call r)

-- a creation by the new variable's number
abbrev pub grow_reply : Result DomainId Refusal → Result Reply LineRefusal
grow_reply answer = answered (λ (x : DomainId). reply.Number x.0) answer

-- a post by 1 for a change and 0 for none
abbrev pub post_reply : Result Bool Refusal → Result Reply LineRefusal
post_reply answer = answered (λ (changed : Bool). reply.Number (pick changed 1 0)) answer

-- an opening by the new checkpoint
abbrev pub open_reply : Result Checkpoint Refusal → Result Reply LineRefusal
open_reply answer = answered (λ (k : Checkpoint). reply.Number k.0) answer

-- a going back by its pairs
abbrev pub synchronise_reply : Result ℕ Refusal → Result Reply LineRefusal
synchronise_reply answer = answered reply.Pairs answer

-- a question for the truth by true, false or open
abbrev pub truth_reply : Result (Option Bool) Refusal → Result Reply LineRefusal
truth_reply answer = answered reply.Truth answer
