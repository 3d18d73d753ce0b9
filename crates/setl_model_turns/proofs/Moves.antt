-- Moves with fewer and with more turns left.
use Rattle.std.proofs.lemmas.Bool.Decides.{nat_tests}
use Rattle.std.proofs.Common.{arith, ◌≡◌, refl, ℕ, Bool, true, false, List, Option, Some, None}
use Rattle.std.specs.Prelude.{◌≤◌, ◌-◌, nat_le}
use Rattle.setl_value.specs.Datum.{Datum, bool, int, text, atom, tuple, set}
use Rattle.setl_operators_table.specs.Outcome.{Outcome, Gives, Fails, Overspends}
use Rattle.setl_model_runs.specs.Variable.{Variable, Global, Own, Bound}
use Rattle.setl_model_runs.specs.Events.{End, Done, Stopped, Spent, Stuck}
use Rattle.setl_model_runs.specs.Turns.{left_after}
use Rattle.setl_model_runs.specs.Run.{Move, Moves, Halts}
use Rattle.setl_model.specs.Core.{Hand, Result, Frame, Core, line_of}
use Rattle.setl_model.specs.World.{branch}
use Rattle.setl_model.specs.Moves.{go, store_or_bind, turn, with_outcome, deliver}
use Rattle.setl_model_turns.specs.Laws.{with_turns}
use Rattle.setl_operators_turns.specs.Outcomes.{Keeps}

-- the second end is the first, unless that is for want of turns
abbrev pub KeepsEnd : End → Move Core → Type 0
KeepsEnd Spent m = Unit {0}
KeepsEnd Done m = m ≡ Halts Done
KeepsEnd (Stopped why line) m = m ≡ Halts (Stopped why line)
KeepsEnd Stuck m = m ≡ Halts Stuck

-- the second move is the first with as many turns left or more, unless that ends for want of turns
abbrev pub Follows : Move Core → Move Core → Type 0
Follows (Halts e) m = KeepsEnd e m
Follows (Moves said told to line xs) m = (n : ℕ) × (to.shared.world.left ≤ n) × (m ≡ Moves said told (with_turns n to) line xs)

-- a move from a core, whatever turns it has
abbrev pub GoesOn : (Core → Move Core) → Type 0
GoesOn f = (c : Core) (n : ℕ) → c.shared.world.left ≤ n → Follows (f c) (f (with_turns n c))

pub halts : (e : End) → Follows (Halts e) (Halts e)
halts Done = refl
halts (Stopped why line) = refl
halts Spent = tt
halts Stuck = refl

pub going : (hand : Hand) (work : List Frame) → GoesOn (go hand work)
going hand work c n h = (n, h, refl)

pub storing : (line : ℕ) (x : Variable) (v : Option Datum) (hand : Hand) (work : List Frame) → GoesOn (store_or_bind line x v hand work)
storing line (Bound former name) v hand work c n h = (n, h, refl)
storing line (Global name) v hand work c n h = (n, h, refl)
storing line (Own body name) v hand work c n h = (n, h, refl)

-- ---- turns

pub after_a_turn : (next : Core → Move Core) → GoesOn next → GoesOn (λ c. turn c next)
after_a_turn next later c n h = split (nat_le 1 c.shared.world.left) refl
  where
    pays : nat_le 1 c.shared.world.left ≡ true → Follows (turn c next) (turn (with_turns n c) next)
    pays e =
        let mine : left_after 1 c.shared.world.left ≡ Some (c.shared.world.left - 1) = rw e in
        let more : nat_le 1 n ≡ true = grind (arith, nat_tests) in
        let theirs : left_after 1 n ≡ Some (n - 1) = rw more in
        rw (mine, theirs) (later (with_turns (c.shared.world.left - 1) c) (n - 1) (omega arith))

    split : (b : Bool) → nat_le 1 c.shared.world.left ≡ b → Follows (turn c next) (turn (with_turns n c) next)
    split true e = pays e
    split false e =
        let mine : left_after 1 c.shared.world.left ≡ None = rw e in
        rw mine tt

-- ---- outcomes

pub after_outcome : (left : ℕ) (o o' : Outcome) (line : ℕ) (next : Option Datum → Core → Move Core) → ((v : Option Datum) → GoesOn (next v)) → Keeps left o o' → (c : Core) (n : ℕ) → c.shared.world.left ≤ n → Follows (with_outcome o line c next) (with_outcome o' line (with_turns n c) next)
after_outcome left (Gives v m) o' line next later k c n h = rw (k.0) (later v (with_turns (c.shared.world.left - m) c) (n - m) (omega arith))
after_outcome left (Fails fault) o' line next later k c n h = rw k
after_outcome left Overspends o' line next later k c n h = tt

pub delivering : (left : ℕ) (o o' : Outcome) (work : List Frame) → Keeps left o o' → (c : Core) (n : ℕ) → c.shared.world.left ≤ n → Follows (deliver o work c) (deliver o' work (with_turns n c))
delivering left o o' work k c n h = after_outcome left o o' (line_of work) (λ v d. go (Result v) work d) (λ v. going (Result v) work) k c n h

-- ---- decisions

pub deciding : (v : Option Datum) (line : ℕ) (a a' b b' : Move Core) → Follows a a' → Follows b b' → Follows (branch v line a b) (branch v line a' b')
deciding (Some (bool true)) line a a' b b' f g = f
deciding (Some (bool false)) line a a' b b' f g = g
deciding None line a a' b b' f g = refl
deciding (Some (int z)) line a a' b b' f g = refl
deciding (Some (text z)) line a a' b b' f g = refl
deciding (Some (atom z)) line a a' b b' f g = refl
deciding (Some (tuple z)) line a a' b b' f g = refl
deciding (Some (set z)) line a a' b b' f g = refl
