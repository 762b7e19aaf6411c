-- The text of a reply: the line's number, `ok` or `refused`, and each field after a tab, byte 9 (RULES.md, D9). Assumes nothing.
use Rattle.std.specs.Prelude.{ℕ, zero, suc, true, false, List, [], ◌∷◌, ◌++◌, ℤ, Some, None, Result, Ok, Err}
use Rattle.lines.specs.Spelling.{spelled, spelled_integer}
use Rattle.replies.specs.declared.answers.Reply.{Reply}
use Rattle.replies.specs.declared.answers.Reply.TheVariants as reply
use Rattle.replies.specs.declared.answers.LineRefusal.{LineRefusal}
use Rattle.replies.specs.Replies.{line_number}

-- a text after a tab
abbrev pub field : List ℕ → List ℕ
field text = 9 ∷ text

-- `ok`
abbrev pub ok_word : List ℕ
ok_word = 111 ∷ 107 ∷ []

-- `refused`
abbrev pub refused_word : List ℕ
refused_word = 114 ∷ 101 ∷ 102 ∷ 117 ∷ 115 ∷ 101 ∷ 100 ∷ []

-- `true`
abbrev pub true_word : List ℕ
true_word = 116 ∷ 114 ∷ 117 ∷ 101 ∷ []

-- `false`
abbrev pub false_word : List ℕ
false_word = 102 ∷ 97 ∷ 108 ∷ 115 ∷ 101 ∷ []

-- `open`
abbrev pub open_word : List ℕ
open_word = 111 ∷ 112 ∷ 101 ∷ 110 ∷ []

-- a pair: the variable and the lower bound
abbrev pub pair_text : ℕ → ℤ → List ℕ
pair_text variable lower = field (spelled variable) ++ field (spelled_integer lower)

-- the first n pairs of two lists, or all of them where there are fewer
unfoldable pub pairs_text : ℕ → List ℕ → List ℤ → List ℕ
pairs_text n [] lowers = []
pairs_text n (x ∷ variables) [] = []
pairs_text zero (x ∷ variables) (v ∷ lowers) = []
pairs_text (suc n) (x ∷ variables) (v ∷ lowers) = pair_text x v ++ pairs_text n variables lowers

-- the lower bound, the upper bound, and how many values are left
abbrev pub shown_text : ℤ → ℤ → ℕ → List ℕ
shown_text lower upper left = field (spelled_integer lower) ++ (field (spelled_integer upper) ++ field (spelled left))

-- the fields after `ok`; with no pair there is none
abbrev pub told_text : Reply → List ℕ → List ℤ → List ℕ
told_text (reply.Number n) variables lowers = field (spelled n)
told_text (reply.Pairs n) variables lowers = pairs_text n variables lowers
told_text (reply.Truth (Some true)) variables lowers = field true_word
told_text (reply.Truth (Some false)) variables lowers = field false_word
told_text (reply.Truth None) variables lowers = field open_word
told_text (reply.Shown lower upper left) variables lowers = shown_text lower upper left

-- the answer after the line's number
abbrev pub answer_text : Result Reply LineRefusal → List ℕ → List ℤ → List ℕ
answer_text (Ok told) variables lowers = field ok_word ++ told_text told variables lowers
answer_text (Err r) variables lowers = field refused_word ++ field (spelled (line_number r))

-- an output line, with LF, byte 10, at its end
abbrev pub reply_text : ℕ → Result Reply LineRefusal → List ℕ → List ℤ → List ℕ
reply_text number answer variables lowers = spelled number ++ (answer_text answer variables lowers ++ (10 ∷ []))
