-- Counting the formers of a body from 1, in the order of their opening brackets.
use Rattle.std.specs.Prelude.{ℕ, suc}

-- what is made where so many formers were opened before, with how many are open afterwards
abbrev pub Numbered : Type 0 → Type 0
Numbered A = ℕ → A × ℕ

abbrev pub pure : {A : Type 0} → A → Numbered A
pure a n = (a, n)

abbrev pub handed_on : {A B : Type 0} → (A → Numbered B) → A × ℕ → B × ℕ
handed_on k r = k r.0 r.1

-- the first, then the second
infixl 10 ◌>>=◌
abbrev pub ◌>>=◌ : {A B : Type 0} → Numbered A → (A → Numbered B) → Numbered B
x >>= k = λ n. handed_on k (x n)

-- the number of the former that is opened
abbrev pub opened : Numbered ℕ
opened n = (suc n, suc n)
