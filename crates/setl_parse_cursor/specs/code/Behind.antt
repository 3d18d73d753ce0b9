-- What is read behind something that was read.
use Rattle.std.specs.Prelude.{ℕ, Bool, List, ◌++◌}
use Rattle.setl_tree.specs.declared.kind.Kind.{Kind}
use Rattle.setl_tree.specs.declared.kind.Kind.TheVariants as k
use Rattle.setl_parse_reading.specs.code.Reading.{Reader, ◌>>=◌, ◌>>◌, pure, expect, opening, many, more, name}

-- what was read, behind which a token of this kind stands
abbrev pub followed : {A : Type 0} → A → Kind → Reader A
followed head kind = expect kind >> pure head

-- a part, behind which a token of this kind stands
abbrev pub before : {A : Type 0} → Reader A → Kind → Reader A
before part kind = do a ← part; expect kind; pure a

-- what was read, and a part beside it
abbrev pub beside : {A B : Type 0} → A → Reader B → Reader (A × B)
beside head part = do b ← part; pure (head, b)

-- items, and behind them parts, while a next one begins
abbrev pub many_onto : {A : Type 0} → List A → (Kind → Bool) → Reader A → Reader (List A)
many_onto items begins part = do xs ← many begins part; pure (items ++ xs)

-- items, and behind them parts, each behind a comma
abbrev pub more_onto : {A : Type 0} → List A → Reader A → Reader (List A)
more_onto items part = do xs ← more part; pure (items ++ xs)

-- a part between a token that opens a nesting and one that closes it
abbrev pub enclosed : {A : Type 0} → ℕ → Kind → Reader A → Kind → Reader A
enclosed room opener part closer = do opening room opener; a ← part; expect closer; pure a

-- what was read, and a part behind a token of this kind
abbrev pub behind : {A B : Type 0} → A → Kind → Reader B → Reader (A × B)
behind head kind part = do expect kind; b ← part; pure (head, b)

-- `(x)` behind a map
abbrev pub argument : ℕ → Reader (List ℕ)
argument room = do opening room k.LeftParen; x ← name; expect k.RightParen; pure x
