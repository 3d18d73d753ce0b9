-- What a store stands for: its code, the core of the code's run but for the world, with all that is kept, and the bases that it
-- tells.
use Rattle.std.specs.Prelude.{◌≡◌, ◌<◌, ◌+◌, ◌^◌, ℕ, suc, Bool, true, false, List, [], ◌∷◌, map, Option, Some, None, Result, Ok, Err, slice_get}
use Rattle.std.specs.Option.{option_map}
use Rattle.setl_value.specs.Datum.{Datum, bool, set, tuple}
use Rattle.setl_value.specs.code.DatumOf.{datum}
use Rattle.setl_model.specs.Entered.{Base}
use Rattle.setl_model.specs.World.{World}
use Rattle.setl_code.specs.declared.code.Code.{Code}
use Rattle.setl_model_runs.specs.Variable.{Variable}
use Rattle.setl_code.specs.Code as plain
use Rattle.setl_code.specs.Code.{Body}
use Rattle.setl_code.specs.Plain.{Variables, plain_code}
use Rattle.setl_code.specs.CodeCore.{cleared, variables_of, Copy, Held, There, Gone, Operand, Result as Holds, Iterator, PairIterator, Collecting, value_of, CodeCore}
use Rattle.setl_store.specs.Gained.{no_members}
use Rattle.setl_store.specs.declared.store.Content.{Content}
use Rattle.setl_store.specs.declared.store.Content.TheVariants as content
use Rattle.setl_store.specs.declared.store.Top.{Top}
use Rattle.setl_store.specs.declared.store.Top.TheVariants as top
use Rattle.setl_code.specs.CodeMeans.{main_slots}
pub use Rattle.setl_store_operands.specs.Operands.{iterator_by}

-- The core's world stays `no_world` here: it is the machine's.
pub record Standing : Type 0 where
  pub code : Code
  pub core : CodeCore
  pub bases : List Base

abbrev pub no_world : World
no_world = record { input = []; eof = false; atom = 0; left = 0 }

-- at the first step of the main body, with so many bases
abbrev pub started : ℕ → Code → Standing
started n c = record {
  code = c;
  core =
      record {
        globals = cleared (plain_code c).vars;
        now = record { body = 0; at = 0; own = main_slots (slice_get (plain_code c).bodies 0); operands = [] };
        callers = [];
        kept = [];
        world = no_world;
      };
  bases = no_members n;
}

-- the variables in hand, by their slots
abbrev pub variables : CodeCore → Variables
variables k = record { global = map (λ c. c.0) k.globals; own = map (λ c. c.0) k.now.own }

-- the variables of a body
abbrev pub variables_by : ℕ → Option Body → List Variable
variables_by n None = []
variables_by n (Some b) = variables_of n b

-- the variables that the body of this number has in hand
abbrev pub variables_in : plain.Code → ℕ → Variables
variables_in c n = record { global = c.vars; own = variables_by n (slice_get c.bodies n) }

-- the same with these operands, the top first
abbrev pub over : List Operand → CodeCore → CodeCore
over xs k = record k { now = record k.now { operands = xs } }

-- the same with what a slot holds on top of the operands; a slot whose value was taken holds nothing
abbrev pub with_pushed : Held → CodeCore → CodeCore
with_pushed Gone k = k
with_pushed (There v) k = over (Holds v ∷ k.now.operands) k

-- the same at this step
abbrev pub at_place : ℕ → CodeCore → CodeCore
at_place at k = record k { now = record k.now { at = at } }

-- the same, kept by `ok`: fail goes on behind it, and what it pushes isn't kept
abbrev pub kept : CodeCore → CodeCore
kept k = record k {
  now = record k.now { at = suc k.now.at; operands = Holds (Some (bool true)) ∷ k.now.operands };
  kept = record { globals = k.globals; now = record k.now { at = suc k.now.at }; callers = k.callers } ∷ k.kept;
}

-- what `fail` brings back of the first of these
abbrev pub restored : List Copy → CodeCore → Option CodeCore
restored [] k = None
restored (c ∷ older) k = Some (record k { globals = c.globals; now = record c.now { operands = Holds (Some (bool false)) ∷ c.now.operands }; callers = c.callers; kept = older })

-- it is brought back, or nothing is kept and nothing changes
abbrev pub Restored : Bool → CodeCore → CodeCore → Type 0
Restored true old new = restored old.kept old ≡ Some new
Restored false old new = (old.kept ≡ []) × (new ≡ old)

-- the first of these is forgotten, all changes stay, and `succeed` goes on behind it
abbrev pub forgotten : List Copy → CodeCore → Option CodeCore
forgotten [] k = None
forgotten (c ∷ older) k = Some (record k { now = record k.now { at = suc k.now.at }; kept = older })

-- it is forgotten, or nothing is kept and nothing changes
abbrev pub Forgotten : Bool → CodeCore → CodeCore → Type 0
Forgotten true old new = forgotten old.kept old ≡ Some new
Forgotten false old new = (old.kept ≡ []) × (new ≡ old)

-- the value that the top operand serves as, and the operands below it
abbrev pub top_of : List Operand → Option (Option Datum × List Operand)
top_of [] = None
top_of (o ∷ xs) = option_map (λ v. (v, xs)) (value_of o)

-- the call makes this of the store, or it is refused and all is as before
abbrev pub Becomes : {V E : Type 0} → Result V E → (old new made : Standing) → Type 0
Becomes (Ok v) old new made = new ≡ made
Becomes (Err e) old new made = new ≡ old

-- there is a number for the step behind the one in hand, as there is where the body has a step in hand
abbrev pub CanGoOn : Standing → Type 0
CanGoOn s = s.core.now.at + 1 < 2 ^ 64

-- what a slot holds
abbrev pub IsHeld : Held → Content → Type 0
IsHeld (There v) content.Based = Unit {0}
IsHeld Gone content.Taken = Unit {0}
IsHeld (There None) content.Om = Unit {0}
IsHeld (There (Some d)) (content.Value v) = datum v.now ≡ d
IsHeld h c = ⊥

-- what the top operand is; an iterator gives members or pairs, and a value in a form that isn't lent is a set or a tuple
abbrev pub Shows : List Operand → Top → Type 0
Shows [] top.Nothing = Unit {0}
Shows (Holds None ∷ xs) top.Om = Unit {0}
Shows (Holds (Some d) ∷ xs) (top.Value v) = datum v.now ≡ d
Shows (Holds (Some (set ms)) ∷ xs) top.Based = Unit {0}
Shows (Holds (Some (tuple ps)) ∷ xs) top.Based = Unit {0}
Shows (Iterator items ∷ xs) top.Iterator = Unit {0}
Shows (PairIterator items ∷ xs) top.Iterator = Unit {0}
Shows (Collecting what got ∷ xs) (top.Collection kind) = kind ≡ what
Shows xs t = ⊥
