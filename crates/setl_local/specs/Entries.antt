-- The state that a table of fields by place stands for.
use Rattle.std.specs.Prelude.{◌≡◌, Bool, true, false, cond, ◌&&◌, nat_eq, List, [], ◌∷◌, filter, Option, None, Some}
use Rattle.std.specs.Option.{option_map, option_map_or}
use Rattle.std.specs.Map.{keys_of, lookup}
use Rattle.std.specs.FinSet as set
use Rattle.std.specs.FinMap as map
use Rattle.setl_local.specs.Place.{Place}
use Rattle.setl_local.specs.FieldState.{FieldState}
use Rattle.setl_local.specs.declared.fields.Field.{Field}

abbrev pub place_eq : Place → Place → Bool
place_eq p q = nat_eq p.0 q.0 && nat_eq p.1 q.1

-- whether there is a field whose bit is on
abbrev pub bit_of : {T : Type 0} → Option (Field T) → Bool
bit_of None = false
bit_of (Some field) = field.bit

-- the content of the field
abbrev pub content_of : {T : Type 0} → Option (Field T) → Option T
content_of None = None
content_of (Some field) = field.content

-- the places at which f has something, with that
abbrev pub entries_by : {T : Type 0} → (Place → Option T) → List Place → List (Place × T)
entries_by f [] = []
entries_by f (p ∷ ps) = option_map_or (λ c. (p, c) ∷ entries_by f ps) (f p) (entries_by f ps)

module _ {T : Type 0} where
  -- what the table has at a place
  abbrev pub field_at : List (Place × Field T) → Place → Option (Field T)
  field_at entries p = lookup (place_eq p) entries

  abbrev pub state_of : List (Place × Field T) → FieldState T
  state_of entries = record {
    room = set.from_list (keys_of entries);
    bits = set.from_list (filter (λ p. bit_of (field_at entries p)) (keys_of entries));
    contents = map.from_entries (entries_by (λ p. content_of (field_at entries p)) (keys_of entries));
  }

  abbrev pub or_empty : Option (Field T) → Field T
  or_empty None = record { bit = false; content = None }
  or_empty (Some field) = field

  -- the table has at p what it had there, or else an empty field, and has elsewhere what it had
  abbrev pub GainsRoom : Place → List (Place × Field T) → List (Place × Field T) → Type 0
  GainsRoom p old new = (q : Place) → field_at new q ≡ cond (place_eq p q) (Some (or_empty (field_at old p))) (field_at old q)

  -- the field that the table has at p is changed by f, and it has elsewhere what it had
  abbrev pub Alters : (Field T → Field T) → Place → List (Place × Field T) → List (Place × Field T) → Type 0
  Alters f p old new = (q : Place) → field_at new q ≡ cond (place_eq p q) (option_map f (field_at old p)) (field_at old q)

  abbrev pub turned_on : Field T → Field T
  turned_on field = record field { bit = true }

  abbrev pub emptied : Field T → Field T
  emptied field = record { bit = false; content = None }

  abbrev pub filled : T → Field T → Field T
  filled c field = record field { content = Some c }
