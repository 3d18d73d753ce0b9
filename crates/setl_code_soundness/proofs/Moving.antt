-- Moves of sound code: they lead to ready states, and each takes a turn, returns, or falls in height.
use Rattle.std.proofs.Common.{◌≡◌, ◌<◌, ◌≤◌, ℕ, suc, ◌-◌, Bool, true, false, List, [], ◌∷◌, ◌⊎◌, inl, inr, length, Option, Some, None, refl, sym, ap, ◌∙◌, arith}
use Rattle.std.specs.Prelude.{nat_le, cond}
use Rattle.std.specs.List.{Contains}
use Rattle.std.proofs.lemmas.Bool.{leb-true}
use Rattle.setl_value.specs.Datum.{Datum, bool}
use Rattle.setl_operators_table.specs.Outcome.{Outcome, Gives, Fails, Overspends}
use Rattle.setl_model_runs.specs.Variable.{Variable, Global, Own, Bound, is_variable}
use Rattle.setl_model_runs.specs.Events.{Event}
use Rattle.setl_model_runs.specs.Run.{Store, Move, Moves, Halts}
use Rattle.setl_model.specs.World.{World, branch}
use Rattle.setl_model.specs.World as world
use Rattle.setl_code.specs.Code.{Instr, Code}
use Rattle.setl_code.specs.Piece.{Is}
use Rattle.setl_code.specs.CodeCore.{There, Gone, Held, Cells, held_in, with_held, Operand, CodeCore, holding, held, write}
use Rattle.setl_code.specs.CellLaws.{held_after}
use Rattle.setl_code.specs.Machine.{at_step, on_held, store_in}
use Rattle.setl_code.specs.Shapes.{Shape, all_serve, successors}
use Rattle.setl_code.specs.Sound.{Table, shape_at, says, is_read, is_written, ReadLater, reads, later, height_at}
use Rattle.setl_code.specs.Ready.{HaveShape, IsOwn, AtWork, Ready}
use Rattle.setl_code_soundness.specs.Claims.{IsNotStuck}

-- the core after all stores of a move
abbrev pub write_all : List Store → CodeCore → CodeCore
write_all [] k = k
write_all (x ∷ xs) k = write_all xs (write x.0 (There x.1) k)

-- Turns, waiting activations and height: one of them falls, and those before it don't rise.
pub data Falls (l n h l' n' h' : ℕ) : Type 0 where
  takes_turn : l' < l → Falls l n h l' n' h'
  returns : l' ≤ l → n' < n → Falls l n h l' n' h'
  moves_on : l' ≤ l → n' ≤ n → h' < h → Falls l n h l' n' h'

-- the boolean answer of a table as a shape that serves
pub there : (T : Table) (to : ℕ) (s : Shape) → says (shape_at T to) s ≡ true → (t : Shape) × (shape_at T to ≡ Some t) × (all_serve s t ≡ true)
there T to s h = go (shape_at T to) h
  where
    go : (o : Option Shape) → says o s ≡ true → (t : Shape) × (o ≡ Some t) × (all_serve s t ≡ true)
    go None h = cc
    go (Some t) h = (t, refl, h)

-- another variable than one of the whole program lies in an activation
own_apart : (name : List ℕ) (y : Variable) → IsOwn y → is_variable (Global name) y ≡ false
own_apart name (Global other) h = absurd h
own_apart name (Own body other) h = refl
own_apart name (Bound former other) h = refl

-- the same core in another world
abbrev pub in_world : World → CodeCore → CodeCore
in_world w k = record k { world = w }

module _ (c : Code) (declared : List Variable) where
  abbrev pub height : (k : CodeCore) → Ready c declared k → ℕ
  height k r = height_at r.now.sound.heights k.now.at

  -- a move from a ready state that goes on so, or ends and isn't stuck
  abbrev pub Leads : (k : CodeCore) → Ready c declared k → CodeCore → Type 0
  Leads k r to = (r' : Ready c declared to) × Falls k.world.left (length k.callers) (height k r) to.world.left (length to.callers) (height to r')

  abbrev pub FineMove : (k : CodeCore) → Ready c declared k → Move CodeCore → Type 0
  FineMove k r (Moves said told to line xs) = Leads k r (write_all xs to)
  FineMove k r (Halts e) = IsNotStuck e

  module _ (k : CodeCore) (r : Ready c declared k) where
    -- ---- outcomes, turns and tests

    pub outcomes : (o : Outcome) (line : ℕ) (w : World) (f : Option Datum → CodeCore → Move CodeCore) → ((v : Option Datum) (m : ℕ) → FineMove k r (f v (in_world (record w { left = w.left - m }) k))) → FineMove k r (world.with_outcome holding o line (in_world w k) f)
    outcomes (Gives v m) line w f each = each v m
    outcomes (Fails fault) line w f each = tt
    outcomes Overspends line w f each = tt

    pub turns : (f : CodeCore → Move CodeCore) → ((m : ℕ) → m < k.world.left → FineMove k r (f (in_world (record k.world { left = m }) k))) → FineMove k r (world.turn holding k f)
    turns f each = go (nat_le 1 k.world.left) refl
      where
        go : (b : Bool) → nat_le 1 k.world.left ≡ b → FineMove k r (world.go_with holding ((elim b as (λ t. ℕ → Option ℕ) [ true ↦ λ n. Some n | false ↦ λ n. None ]) (k.world.left - 1)) k f)
        go true is = let enough = leb-true 1 k.world.left is in let less : k.world.left - 1 < k.world.left = omega arith in each (k.world.left - 1) less
        go false is = tt

    pub branches : (v : Option Datum) (line : ℕ) (a b : Move CodeCore) → FineMove k r a → FineMove k r b → FineMove k r (branch v line a b)
    branches (Some (bool true)) line a b h g = h
    branches (Some (bool false)) line a b h g = g
    branches None line a b h g = tt
    branches (Some d) line a b h g = tt

    -- ---- variables

    pub not_gone : (x : Variable) (f : Option Datum → Move CodeCore) → (IsOwn x → held_in k.now.own x ≡ Gone → ⊥) → ((v : Option Datum) → FineMove k r (f v)) → FineMove k r (on_held (held x k) f)
    not_gone (Global name) f own each = go (held_in k.globals (Global name)) refl
      where
        go : (h : Held) → held_in k.globals (Global name) ≡ h → FineMove k r (on_held h f)
        go Gone is = absurd (r.globals (Global name) is)
        go (There v) is = each v
    not_gone (Own body name) f own each = go (held_in k.now.own (Own body name)) refl
      where
        go : (h : Held) → held_in k.now.own (Own body name) ≡ h → FineMove k r (on_held h f)
        go Gone is = absurd (own tt is)
        go (There v) is = each v
    not_gone (Bound former name) f own each = go (held_in k.now.own (Bound former name)) refl
      where
        go : (h : Held) → held_in k.now.own (Bound former name) ≡ h → FineMove k r (on_held h f)
        go Gone is = absurd (own tt is)
        go (There v) is = each v

    -- ---- within an activation

    module _ (line : ℕ) (i : Instr) (is : Is r.now.body.steps k.now.at line i) where
      -- what is read here isn't taken
      pub not_taken : (x : Variable) → is_read k.now.body r.now.body i x ≡ true → IsOwn x → held_in k.now.own x ≡ Gone → ⊥
      not_taken x read own gone = r.now.taken x own gone (reads is read)

      -- at a next step with operands of its shape, and other own cells
      abbrev pub stands : (to : ℕ) (s : Shape) (xs : List Operand) (own : Cells) → says (shape_at r.now.sound.table to) s ≡ true → HaveShape xs s → ((y : Variable) → IsOwn y → held_in own y ≡ Gone → ReadLater k.now.body r.now.body y to → ⊥) → AtWork c declared (record { body = k.now.body; at = to; own = own; operands = xs }) 0
      stands to s xs own said shape taken =
          let t = there r.now.sound.table to s said in
          record { body = r.now.body; is = r.now.is; sound = r.now.sound; shape = t.0; reached = t.1; below = s; operands = shape; fits = t.2; taken = taken }

      -- what is taken there was taken before
      pub still : (to : ℕ) → Contains (successors i (suc k.now.at)) to → (y : Variable) → is_written i y ≡ false → IsOwn y → held_in k.now.own y ≡ Gone → ReadLater k.now.body r.now.body y to → ⊥
      still to within y kept own gone read = r.now.taken y own gone (later is kept within read)

      -- how turns and height go
      abbrev pub Goes : World → ℕ → Type 0
      Goes w to = (w.left < k.world.left) ⊎ ((w.left ≤ k.world.left) × (height_at r.now.sound.heights to < height_at r.now.sound.heights k.now.at))

      falls : (w : World) (to : ℕ) → Goes w to → Falls k.world.left (length k.callers) (height k r) w.left (length k.callers) (height_at r.now.sound.heights to)
      falls w to (inl less) = takes_turn less
      falls w to (inr both) = moves_on both.0 (omega arith) both.1

      -- a move in the activation that stores nothing
      pub lands : (said : List ℕ) (told : List Event) (to : ℕ) (s : Shape) (xs : List Operand) (w : World) → says (shape_at r.now.sound.table to) s ≡ true → HaveShape xs s → Contains (successors i (suc k.now.at)) to → ((y : Variable) → is_written i y ≡ false) → Goes w to → FineMove k r (Moves said told (at_step to xs (in_world w k)) 0 [])
      lands said told to s xs w said_ shape within kept goes = (
        record { sound = r.sound; globals = r.globals; now = stands to s xs k.now.own said_ shape (λ y own gone. still to within y (kept y) own gone); callers = r.callers; kept = r.kept },
        falls w to goes,
      )

      -- own cells after a write
      written : (x : Variable) (v : Option Datum) (y : Variable) (own : Cells) → held_in (with_held own x (There v)) y ≡ Gone → (is_variable x y ≡ false) × (held_in own y ≡ Gone)
      written x v y own gone = go (is_variable x y) refl (sym (held_after own x (There v) y) ∙ gone)
        where
          go : (b : Bool) → is_variable x y ≡ b → cond (is_variable x y) (There v) (held_in own y) ≡ Gone → (is_variable x y ≡ false) × (held_in own y ≡ Gone)
          go true same h = let no : There v ≡ Gone = ap (λ t. cond t (There v) (held_in own y)) (sym same) ∙ h in cc
          go false other h = (other, ap (λ t. cond t (There v) (held_in own y)) (sym other) ∙ h)

      -- a store, behind which the code goes on at the next step
      pub stores : (x : Variable) (v : Option Datum) (s : Shape) (xs : List Operand) (w : World) → says (shape_at r.now.sound.table (suc k.now.at)) s ≡ true → HaveShape xs s → Contains (successors i (suc k.now.at)) (suc k.now.at) → ((y : Variable) → is_variable x y ≡ false → is_written i y ≡ false) → Goes w (suc k.now.at) → FineMove k r (store_in x line v xs (in_world w k))
      stores (Global name) v s xs w said shape within kept goes = (
        record {
          sound = r.sound;
          globals = λ y gone. r.globals y (written (Global name) v y k.globals gone).1;
          now = stands (suc k.now.at) s xs k.now.own said shape (λ y own gone. still (suc k.now.at) within y (kept y (own_apart name y own)) own gone);
          callers = r.callers;
          kept = r.kept;
        },
        falls w (suc k.now.at) goes,
      )
      stores (Own body name) v s xs w said shape within kept goes = (
        record {
          sound = r.sound;
          globals = r.globals;
          now = stands (suc k.now.at) s xs (with_held k.now.own (Own body name) (There v)) said shape (λ y own gone. (let two = written (Own body name) v y k.now.own gone in still (suc k.now.at) within y (kept y two.0) own two.1));
          callers = r.callers;
          kept = r.kept;
        },
        falls w (suc k.now.at) goes,
      )
      stores (Bound former name) v s xs w said shape within kept goes = (
        record {
          sound = r.sound;
          globals = r.globals;
          now = stands (suc k.now.at) s xs (with_held k.now.own (Bound former name) (There v)) said shape (λ y own gone. (let two = written (Bound former name) v y k.now.own gone in still (suc k.now.at) within y (kept y two.0) own two.1));
          callers = r.callers;
          kept = r.kept;
        },
        falls w (suc k.now.at) goes,
      )
