-- The words of a line, each the list of its bytes (RULES.md, D5 and D6). Assumes nothing.
use Rattle.std.specs.Prelude.{ℕ, List, [], ◌∷◌}
use Rattle.predicates.specs.declared.PredicateType.{PredicateType}
use Rattle.predicates.specs.declared.PredicateType.TheVariants.{LowerBound, NotEqual, Equal, UpperBound}

-- `ge`, `ne`, `eq` and `le`
abbrev pub word_of : PredicateType → List ℕ
word_of LowerBound = 103 ∷ 101 ∷ []
word_of NotEqual = 110 ∷ 101 ∷ []
word_of Equal = 101 ∷ 113 ∷ []
word_of UpperBound = 108 ∷ 101 ∷ []

-- `-`, which stands for no reason
abbrev pub dash : List ℕ
dash = 45 ∷ []

-- `var`
abbrev pub var_word : List ℕ
var_word = 118 ∷ 97 ∷ 114 ∷ []

-- `list`
abbrev pub list_word : List ℕ
list_word = 108 ∷ 105 ∷ 115 ∷ 116 ∷ []

-- `post`
abbrev pub post_word : List ℕ
post_word = 112 ∷ 111 ∷ 115 ∷ 116 ∷ []

-- `open`
abbrev pub open_word : List ℕ
open_word = 111 ∷ 112 ∷ 101 ∷ 110 ∷ []

-- `back`
abbrev pub back_word : List ℕ
back_word = 98 ∷ 97 ∷ 99 ∷ 107 ∷ []

-- `ask`
abbrev pub ask_word : List ℕ
ask_word = 97 ∷ 115 ∷ 107 ∷ []

-- `at`
abbrev pub at_word : List ℕ
at_word = 97 ∷ 116 ∷ []

-- `show`
abbrev pub show_word : List ℕ
show_word = 115 ∷ 104 ∷ 111 ∷ 119 ∷ []

-- `count`
abbrev pub count_word : List ℕ
count_word = 99 ∷ 111 ∷ 117 ∷ 110 ∷ 116 ∷ []
