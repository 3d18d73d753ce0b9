-- Moves with fewer and with more turns left.
use Rattle.std.proofs.lemmas.Bool.Decides.{nat_tests}
use Rattle.std.proofs.Common.{arith, ◌≡◌, refl, subst, ℕ, Bool, true, false, List, [], ◌∷◌, Option, Some, None}
use Rattle.std.specs.Prelude.{◌≤◌, ◌<◌, ◌+◌, ◌-◌, nat_le}
use Rattle.setl_value.specs.Datum.{Datum, bool, int, text, atom, tuple, set}
use Rattle.setl_operators_table.specs.Outcome.{Outcome, Gives, Fails, Overspends}
use Rattle.setl_operators_turns.specs.Outcomes.{Keeps}
use Rattle.setl_model_runs.specs.Events.{End, Done, Stopped, Spent, Stuck}
use Rattle.setl_model_runs.specs.Turns.{left_after}
use Rattle.setl_model_runs.specs.Run.{Move, Moves, Halts}
use Rattle.setl_model.specs.World.{branch}
use Rattle.setl_code.specs.CodeCore.{Held, There, Gone, Operand, Popped, Pops, Lacks, value_of, CodeCore}
use Rattle.setl_code.specs.Machine.{on_value, on_top, on_popped, on_held, on_rest, turn, with_outcome}
use Rattle.setl_code_turns.specs.Laws.{with_more}

-- the core with so many turns left
abbrev pub with_turns : ℕ → CodeCore → CodeCore
with_turns n k = record k { world = record k.world { left = n } }

-- if it goes on, it leaves fewer turns
abbrev pub IsPoor : ℕ → Move CodeCore → Type 0
IsPoor d (Moves said told to line xs) = to.world.left < d
IsPoor d (Halts e) = Unit {0}

-- the second end is the first; unless that is for want of turns
abbrev pub KeepsEnd : ℕ → End → Move CodeCore → Type 0
KeepsEnd d Spent m = IsPoor d m
KeepsEnd d Done m = m ≡ Halts Done
KeepsEnd d (Stopped why line) m = m ≡ Halts (Stopped why line)
KeepsEnd d Stuck m = m ≡ Halts Stuck

-- the second move is the first with d turns more, and no more than so many were left; where the first is for want of turns,
-- the second one leaves fewer than d
abbrev pub Follows : (left d : ℕ) → Move CodeCore → Move CodeCore → Type 0
Follows left d (Halts e) m = KeepsEnd d e m
Follows left d (Moves said told to line xs) m = (m ≡ Moves said told (with_more d to) line xs) × (to.world.left ≤ left)

-- a move from a core, whatever turns it has
abbrev pub GoesOn : ℕ → (CodeCore → Move CodeCore) → Type 0
GoesOn d f = (k : CodeCore) → Follows k.world.left d (f k) (f (with_more d k))

pub halts : (left d : ℕ) (e : End) → Follows left d (Halts e) (Halts e)
halts left d Done = refl
halts left d (Stopped why line) = refl
halts left d Spent = tt
halts left d Stuck = refl

weaker : (few left d : ℕ) → few ≤ left → (a b : Move CodeCore) → Follows few d a b → Follows left d a b
weaker few left d h (Moves said told to line xs) b f = (f.0, omega (arith, f.1, h))
weaker few left d h (Halts e) b f = f

poorer : (left d : ℕ) → left < d → (a b : Move CodeCore) → Follows left d a b → IsPoor d a
poorer left d h (Moves said told to line xs) b f = omega (arith, f.1, h)
poorer left d h (Halts e) b f = tt

-- ---- charges

-- a charge that is covered
paid : (d m : ℕ) (f : CodeCore → Move CodeCore) → GoesOn d f → (k : CodeCore) → m ≤ k.world.left → Follows k.world.left d (f (with_turns (k.world.left - m) k)) (f (with_turns (k.world.left + d - m) k))
paid d m f on k h =
    let same : k.world.left - m + d ≡ k.world.left + d - m = omega (arith, h) in
    let less : k.world.left - m ≤ k.world.left = omega arith in
    weaker (k.world.left - m) k.world.left d less (f (with_turns (k.world.left - m) k)) (f (with_turns (k.world.left + d - m) k))
    (subst (λ n. Follows (k.world.left - m) d (f (with_turns (k.world.left - m) k)) (f (with_turns n k))) same (on (with_turns (k.world.left - m) k)))

-- one that isn't
lacking : (d m : ℕ) → 0 < d → (f : CodeCore → Move CodeCore) → GoesOn d f → (k : CodeCore) → k.world.left < m → IsPoor d (f (with_turns (k.world.left + d - m) k))
lacking d m some f on k h =
    let few : k.world.left + d - m < d = omega (arith, h, some) in
    let there : CodeCore = with_turns (k.world.left + d - m) k in
    poorer (k.world.left + d - m) d few (f there) (f (with_more d there)) (on there)

pub after_a_turn : (d : ℕ) → 0 < d → (f : CodeCore → Move CodeCore) → GoesOn d f → GoesOn d (λ k. turn k f)
after_a_turn d some f on k = split (nat_le 1 k.world.left) refl
  where
    more : left_after 1 (k.world.left + d) ≡ Some (k.world.left + d - 1)
    more = let e : nat_le 1 (k.world.left + d) ≡ true = grind (arith, nat_tests, some) in rw e

    split : (b : Bool) → nat_le 1 k.world.left ≡ b → Follows k.world.left d (turn k f) (turn (with_more d k) f)
    split true e =
        let mine : left_after 1 k.world.left ≡ Some (k.world.left - 1) = rw e in
        let some_left : 1 ≤ k.world.left = grind (arith, nat_tests, e) in
        rw (mine, more) (paid d 1 f on k some_left)
    split false e =
        let mine : left_after 1 k.world.left ≡ None = rw e in
        let none_left : k.world.left < 1 = grind (arith, nat_tests, e) in
        rw (mine, more) (lacking d 1 some f on k none_left)

pub after_outcome : (d : ℕ) → 0 < d → (o o' : Outcome) (line : ℕ) (next : Option Datum → CodeCore → Move CodeCore) → ((v : Option Datum) → GoesOn d (next v)) → (k : CodeCore) → Keeps k.world.left o o' → Follows k.world.left d (with_outcome o line k next) (with_outcome o' line (with_more d k) next)
after_outcome d some (Gives v m) o' line next later k h = rw (h.0) (paid d m (next v) (later v) k h.1)
after_outcome d some (Fails fault) o' line next later k h = rw h
after_outcome d some Overspends o' line next later k h = go o' h
  where
    go : (o : Outcome) → ((v : Option Datum) (m : ℕ) → o ≡ Gives v m → k.world.left < m) → IsPoor d (with_outcome o line (with_more d k) next)
    go (Gives v m) h = lacking d m some (next v) (later v) k (h v m refl)
    go (Fails fault) h = tt
    go Overspends h = tt

-- ---- decisions

pub deciding : (left d : ℕ) (v : Option Datum) (line : ℕ) (a a' b b' : Move CodeCore) → Follows left d a a' → Follows left d b b' → Follows left d (branch v line a b) (branch v line a' b')
deciding left d (Some (bool true)) line a a' b b' f g = f
deciding left d (Some (bool false)) line a a' b b' f g = g
deciding left d None line a a' b b' f g = refl
deciding left d (Some (int z)) line a a' b b' f g = refl
deciding left d (Some (text z)) line a a' b b' f g = refl
deciding left d (Some (atom z)) line a a' b b' f g = refl
deciding left d (Some (tuple z)) line a a' b b' f g = refl
deciding left d (Some (set z)) line a a' b b' f g = refl

-- ---- operands

pub on_a_value : (left d : ℕ) (o : Option (Option Datum)) (f g : Option Datum → Move CodeCore) → ((v : Option Datum) → Follows left d (f v) (g v)) → Follows left d (on_value o f) (on_value o g)
on_a_value left d None f g h = refl
on_a_value left d (Some v) f g h = h v

pub on_the_top : (left d : ℕ) (xs : List Operand) (f g : Option Datum → List Operand → Move CodeCore) → ((v : Option Datum) (ys : List Operand) → Follows left d (f v ys) (g v ys)) → Follows left d (on_top xs f) (on_top xs g)
on_the_top left d [] f g h = refl
on_the_top left d (o ∷ xs) f g h = on_a_value left d (value_of o) (λ v. f v xs) (λ v. g v xs) (λ v. h v xs)

pub on_those_popped : (left d : ℕ) (p : Popped) (f g : List (Option Datum) → List Operand → Move CodeCore) → ((vs : List (Option Datum)) (xs : List Operand) → Follows left d (f vs xs) (g vs xs)) → Follows left d (on_popped p f) (on_popped p g)
on_those_popped left d Lacks f g h = refl
on_those_popped left d (Pops vs xs) f g h = h vs xs

pub on_what_is_held : (left d : ℕ) (a : Held) (f g : Option Datum → Move CodeCore) → ((v : Option Datum) → Follows left d (f v) (g v)) → Follows left d (on_held a f) (on_held a g)
on_what_is_held left d Gone f g h = refl
on_what_is_held left d (There v) f g h = h v

pub on_the_rest : (left d : ℕ) (o : Option (List Operand)) (f g : List Operand → Move CodeCore) → ((xs : List Operand) → Follows left d (f xs) (g xs)) → Follows left d (on_rest o f) (on_rest o g)
on_the_rest left d None f g h = refl
on_the_rest left d (Some xs) f g h = h xs
