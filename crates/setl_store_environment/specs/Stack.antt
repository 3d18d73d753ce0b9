-- What contracts see of a list whose memory is never given back.
use Rattle.std.specs.Prelude.{◌≡◌, ℕ, suc, ◌+◌, ◌<◌, ◌≤◌, List, ◌∷◌, ◌++◌, length, take, drop, refl}
use Rattle.std.specs.Coded.{Coded, code_by, coded×, coded_ℕ, coded_list}
use Rattle.setl_store_environment.specs.declared.stack.Place.{Place}

-- the values, and for how many of them there is memory
pub record StackState (T : Type 0) : Type 0 where
  pub items : List T
  pub room : ℕ

module _ {T : Type 0} where
  -- stored as the pair of its fields
  abbrev pub stack_code : Coded T → Coded (StackState T)
  stack_code code =
      code_by
      (List T × ℕ)
      (coded× (coded_list code) coded_ℕ)
      (λ s. (s.items, s.room))
      (λ p. record { items = p.0; room = p.1 })
      (λ _. refl)

  -- the list with this value at a place
  abbrev pub placed_at : List T → ℕ → T → List T
  placed_at xs at x = take at xs ++ x ∷ drop (suc at) xs

  -- the list after a place gets its content
  abbrev pub placed : List T → Place T → List T
  placed xs p = placed_at xs p.at p.content

-- the place may get its content: there is memory for it, and it stands in the list or behind its last value
pub record Fits (T : Type 0) (xs : List T) (room : ℕ) (p : Place T) : Type 0 where
  pub inside : p.at < room
  pub near : p.at ≤ length xs

-- this place leads from the new list back to the old one, in the same memory
pub record LeadsBack (T : Type 0) (old new : StackState T) (p : Place T) : Type 0 where
  pub room : new.room ≡ old.room
  pub undone : placed new.items p ≡ old.items
  pub fits : Fits T new.items new.room p
