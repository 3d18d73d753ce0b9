-- What the fields of element blocks hold, and a change of one of them.
use Rattle.std.specs.Prelude.{◌≡◌, Bool, true, false, Option, Some, None, IsTrue, refl}
use Rattle.std.specs.Coded.{Coded, code_by, coded×, coded_ℕ}
use Rattle.std.specs.FinSet as set
use Rattle.std.specs.FinMap as map
use Rattle.setl_local.specs.Place as place
use Rattle.setl_local.specs.Place.{place_cmp}
use Rattle.setl_local.specs.FieldState.{FieldState}
use Rattle.setl_store_environment.specs.declared.fields.Field.{Field}

-- the places whose bit is on, and the content of each place that has one
pub record FieldsNow (F : Type 0) : Type 0 where
  pub bits : set.FinSet place_cmp
  pub contents : map.FinMap place_cmp F

abbrev pub fields_code : {F : Type 0} → Coded F → Coded (FieldsNow F)
fields_code {F} code =
    code_by (set.FinSet place_cmp × map.FinMap place_cmp F)
    (coded× (set.code (coded× coded_ℕ coded_ℕ)) (map.code (coded× coded_ℕ coded_ℕ) code))
    (λ s. (s.bits, s.contents)) (λ p. record { bits = p.0; contents = p.1 }) (λ _. refl)

-- nowhere anything
abbrev pub no_fields : {F : Type 0} → FieldsNow F
no_fields = record { bits = set.empty; contents = map.empty }

abbrev pub with_bit : set.FinSet place_cmp → place.Place → Bool → set.FinSet place_cmp
with_bit bits p true = set.insert bits p
with_bit bits p false = set.remove bits p

module _ {F : Type 0} where
  -- without the places that have room
  abbrev pub fields_now : FieldState F → FieldsNow F
  fields_now s = record { bits = s.bits; contents = s.contents }

  abbrev pub with_content : map.FinMap place_cmp F → place.Place → Option F → map.FinMap place_cmp F
  with_content contents p None = map.remove contents p
  with_content contents p (Some c) = map.insert contents p c

  -- the fields after one of them was put at its place
  abbrev pub with_field : FieldsNow F → place.Place → Bool → Option F → FieldsNow F
  with_field f p bit content = record { bits = with_bit f.bits p bit; contents = with_content f.contents p content }

  abbrev pub with : FieldsNow F → Field F → FieldsNow F
  with f p = with_field f (p.object, p.block) p.bit p.content

  -- there is memory for it
  abbrev pub HasRoom : set.FinSet place_cmp → Field F → Type 0
  HasRoom room p = IsTrue (set.contains room (p.object, p.block))

  -- this field leads from the new ones back to the old ones, in the same memory
  pub record LeadsFieldsBack (old new : FieldState F) (p : Field F) : Type 0 where
    pub room : new.room ≡ old.room
    pub undone : with (fields_now new) p ≡ fields_now old
    pub fits : HasRoom new.room p
