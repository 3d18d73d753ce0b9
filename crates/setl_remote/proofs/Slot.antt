-- Slots at the end, and a slot that is written.
use Rattle.std.proofs.Common.{◌≡◌, ◌∙◌, ℕ, ◌<◌, ◌≤◌, inl, inr, cond, List, [], ◌∷◌, ◌++◌, length, get_or, set, Option, None, sym, ap, arith, nat_eq}
use Rattle.std.proofs.lemmas.Bool.{cases_lt}
use Rattle.std.proofs.lemmas.List.{get_or_past, get_or_append_left, get_or-set_same, get_or-set_other}
use Rattle.std.proofs.Math.Seq.{get_or-append_right}
use Rattle.setl_remote.specs.Slots.{slot_at, PutsSlot}
use Rattle.setl_remote.proofs.Bit.{apart, itself, same_or_not}

module _ {T : Type 0} where
  one_none : (k : ℕ) → get_or {A = Option T} (None ∷ []) k None ≡ None
  one_none k = elim (cases_lt k 1) as (λ _. get_or {A = Option T} (None ∷ []) k None ≡ None) [
    | inl less ↦ let e : k ≡ 0 = omega arith in ap (λ j. get_or {A = Option T} (None ∷ []) j None) e
    | inr more ↦ get_or_past {X = Option T} (None ∷ []) k None more
  ]

  pub slot_more : (slots : List (Option T)) (n : ℕ) → slot_at (slots ++ None ∷ []) n ≡ slot_at slots n
  slot_more slots n =
      elim (cases_lt n (length slots)) as (λ _. slot_at (slots ++ None ∷ []) n ≡ slot_at slots n) [
        | inl less ↦ get_or_append_left slots (None ∷ []) None n less
        | inr more ↦ get_or-append_right slots (None ∷ []) n None more ∙ one_none _ ∙ sym (get_or_past slots n None more)
      ]

  pub slot_written : (slots : List (Option T)) (n : ℕ) (c : Option T) → n < length slots → PutsSlot n c slots (set slots n c)
  slot_written slots n c within q =
      elim (same_or_not q n) as (λ _. slot_at (set slots n c) q ≡ cond (nat_eq n q) c (slot_at slots q)) [
        | inl e ↦
            ap (slot_at (set slots n c)) e ∙ get_or-set_same slots n c None within ∙ sym (ap (λ b. cond b c (slot_at slots q)) (ap (nat_eq n) e ∙ itself n))
        | inr other ↦
            get_or-set_other slots n q c None other ∙ sym (ap (λ b. cond b c (slot_at slots q)) (apart n q (λ e. other (sym e))))
      ]

  pub puts_after : (n : ℕ) (c : Option T) (slots more new : List (Option T)) → ((k : ℕ) → slot_at more k ≡ slot_at slots k) → PutsSlot n c more new → PutsSlot n c slots new
  puts_after n c slots more new same puts q = puts q ∙ ap (cond (nat_eq n q) c) (same q)

  pub empty_already : (slots : List (Option T)) (n : ℕ) → length slots ≤ n → PutsSlot n None slots slots
  empty_already slots n past q =
      elim (same_or_not n q) as (λ _. slot_at slots q ≡ cond (nat_eq n q) None (slot_at slots q)) [
        | inl e ↦
            get_or_past slots q None (omega arith) ∙ sym (ap (λ b. cond b None (slot_at slots q)) (ap (nat_eq n) (sym e) ∙ itself n))
        | inr other ↦ sym (ap (λ b. cond b None (slot_at slots q)) (apart n q other))
      ]
