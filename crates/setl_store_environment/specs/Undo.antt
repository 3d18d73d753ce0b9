-- What the entries of an environment's trail put back. No public clause cites this module.
use Rattle.std.specs.Prelude.{ℕ, zero, suc, ◌-◌, ◌≤◌, ◌^◌, ◌==◌, Bool, true, cond, ◌&&◌, ◌||◌, nat_lt, nat_le, min, length, take, slice_set, List, Option, Some, None}
use Rattle.std.specs.FinSet as set
use Rattle.std.specs.Prelude.{IsTrue}
use Rattle.setl_local.specs.Place as place
use Rattle.setl_local.specs.FieldState.{FieldState}
use Rattle.setl_trail.specs.Trail.{Item}
use Rattle.setl_store_environment.specs.declared.environment.Base.{Base}
use Rattle.setl_store_environment.specs.declared.environment.Bases.{Bases}
use Rattle.setl_store_environment.specs.declared.environment.Old.{Old}
use Rattle.setl_store_environment.specs.declared.environment.Old.TheVariants as old
use Rattle.setl_store_environment.specs.Places.{fields_now, with, HasRoom}
use Rattle.setl_store_environment.specs.Stack.{placed, Fits, StackState}
use Rattle.setl_store_environment.specs.Environment.{Contents, Room}
use Rattle.setl_store_environment.specs.Kept.{IsUndoable, kept_of}
use Rattle.setl_store_environment.specs.Stamps.{IsStamped}

-- the four lists and the fields, with their memory
pub record Parts (S O A M F : Type 0) : Type 0 where
  pub slots : StackState S
  pub operands : StackState O
  pub activations : StackState A
  pub members : StackState M
  pub fields : FieldState F

-- how many changes are ready under this number of marks, with memory for so many entries: where there is no mark none
-- is noted, so any number is ready
abbrev pub ready_of : ℕ → ℕ → ℕ
ready_of zero spare = 2 ^ 64
ready_of (suc n) spare = spare

-- the lower of two bases, each list by itself, with the number of the second one
abbrev pub lower : Base → Base → Base
lower m n = record {
  slots = min m.slots n.slots;
  operands = min m.operands n.operands;
  activations = min m.activations n.activations;
  members = min m.members n.members;
  since = n.since;
}

-- Whether an older copy needs a note with this place and stamp. It doesn't need what came later than itself; nor, of a
-- place that wasn't taken off since, a note under a stamp by which it has one.
abbrev pub is_needed_at : ℕ → ℕ → ℕ → ℕ → ℕ → Bool
is_needed_at latest older since at stamp = nat_lt at older && (nat_le latest at || nat_lt stamp since)

module _ {S O A M F : Type 0} where
  abbrev pub parts : StackState S → StackState O → StackState A → StackState M → FieldState F → Parts S O A M F
  parts s o a m f = record { slots = s; operands = o; activations = a; members = m; fields = f }

  -- their lists
  abbrev pub contents_of : Parts S O A M F → Contents S O A M F
  contents_of q = record { slots = q.slots.items; operands = q.operands.items; activations = q.activations.items; members = q.members.items; fields = fields_now q.fields }

  -- their free memory
  abbrev pub room_of : Parts S O A M F → Room
  room_of q = record {
    slots = q.slots.room - length q.slots.items;
    operands = q.operands.room - length q.operands.items;
    activations = q.activations.room - length q.activations.items;
    members = q.members.room - length q.members.items;
    fields = q.fields.room;
  }

  -- the contents after an entry was put back
  abbrev pub undone : Contents S O A M F → Old S O A M F → Contents S O A M F
  undone c (old.Slot p stamp) = record c { slots = placed c.slots p }
  undone c (old.Operand p stamp) = record c { operands = placed c.operands p }
  undone c (old.Activation p) = record c { activations = placed c.activations p }
  undone c (old.Member p) = record c { members = placed c.members p }
  undone c (old.Field p) = record c { fields = with c.fields p }

  -- the entry's place is there, in the memory of these parts
  abbrev pub FitsIn : Parts S O A M F → Contents S O A M F → Old S O A M F → Type 0
  FitsIn q c (old.Slot p stamp) = Fits S c.slots q.slots.room p
  FitsIn q c (old.Operand p stamp) = Fits O c.operands q.operands.room p
  FitsIn q c (old.Activation p) = Fits A c.activations q.activations.room p
  FitsIn q c (old.Member p) = Fits M c.members q.members.room p
  FitsIn q c (old.Field p) = HasRoom q.fields.room p

  -- the stamp that an entry puts back at the place of a slot, and of an operand
  abbrev pub slot_stamp : Old S O A M F → ℕ → Option ℕ
  slot_stamp (old.Slot p stamp) at = cond (p.at == at) (Some stamp) None
  slot_stamp (old.Operand p stamp) at = None
  slot_stamp (old.Activation p) at = None
  slot_stamp (old.Member p) at = None
  slot_stamp (old.Field p) at = None

  abbrev pub operand_stamp : Old S O A M F → ℕ → Option ℕ
  operand_stamp (old.Slot p stamp) at = None
  operand_stamp (old.Operand p stamp) at = cond (p.at == at) (Some stamp) None
  operand_stamp (old.Activation p) at = None
  operand_stamp (old.Member p) at = None
  operand_stamp (old.Field p) at = None

  -- the stamps after it was put back
  abbrev pub slots_restamped : List ℕ → Old S O A M F → List ℕ
  slots_restamped stamps (old.Slot p stamp) = slice_set stamps p.at stamp
  slots_restamped stamps (old.Operand p stamp) = stamps
  slots_restamped stamps (old.Activation p) = stamps
  slots_restamped stamps (old.Member p) = stamps
  slots_restamped stamps (old.Field p) = stamps

  abbrev pub operands_restamped : List ℕ → Old S O A M F → List ℕ
  operands_restamped stamps (old.Slot p stamp) = stamps
  operands_restamped stamps (old.Operand p stamp) = slice_set stamps p.at stamp
  operands_restamped stamps (old.Activation p) = stamps
  operands_restamped stamps (old.Member p) = stamps
  operands_restamped stamps (old.Field p) = stamps

  -- the copy before the forgotten one needs the entry too
  abbrev pub needed : Bases → Old S O A M F → Bool
  needed b (old.Slot p stamp) = is_needed_at b.latest.slots b.older.slots b.older.since p.at stamp
  needed b (old.Operand p stamp) = is_needed_at b.latest.operands b.older.operands b.older.since p.at stamp
  needed b (old.Activation p) = nat_lt p.at b.older.activations
  needed b (old.Member p) = nat_lt p.at b.older.members
  needed b (old.Field p) = true

  -- the lowest values of each list, with the fields
  abbrev pub cut : Base → Contents S O A M F → Contents S O A M F
  cut n c = record c { slots = take n.slots c.slots; operands = take n.operands c.operands; activations = take n.activations c.activations; members = take n.members c.members }

  -- so many are there
  pub record Reaches (n : Base) (c : Contents S O A M F) : Type 0 where
    pub slots : n.slots ≤ length c.slots
    pub operands : n.operands ≤ length c.operands
    pub activations : n.activations ≤ length c.activations
    pub members : n.members ≤ length c.members

  -- What is there up to the base is as at the latest mark, or it is noted what it was; each entry of the trail can be put
  -- back into these parts when its turn comes.
  abbrev pub IsTrailOf : Parts S O A M F → Base → List Base → List (Item (Old S O A M F)) → Type 0
  IsTrailOf q n ns items = Reaches n (contents_of q) × IsUndoable undone cut Reaches (FitsIn q) n (cut n (contents_of q)) items ns

  -- the stamps of slots and of operands tell which of them are noted
  abbrev pub AreStamped : ℕ → Base → List Base → List (Item (Old S O A M F)) → List ℕ → List ℕ → Type 0
  AreStamped clock n ns items slots operands = IsStamped slot_stamp (λ b. b.slots) clock n ns items slots × IsStamped operand_stamp (λ b. b.operands) clock n ns items operands

  -- what was kept
  abbrev pub kept_contents : {K : Type 0} → Parts S O A M F → Base → List Base → List (Item (Old S O A M F)) → List K → List (Contents S O A M F × K)
  kept_contents q n ns items ks = kept_of undone cut (cut n (contents_of q)) items ns ks

  -- no part has less memory
  pub record HasMore (q r : Parts S O A M F) : Type 0 where
    pub slots : q.slots.room ≤ r.slots.room
    pub operands : q.operands.room ≤ r.operands.room
    pub activations : q.activations.room ≤ r.activations.room
    pub members : q.members.room ≤ r.members.room
    pub fields : (p : place.Place) → IsTrue (set.contains q.fields.room p) → IsTrue (set.contains r.fields.room p)
