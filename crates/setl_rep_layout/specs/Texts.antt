-- The texts of forms.
use Rattle.std.specs.Prelude.{ℕ, List, [], ◌∷◌, ◌++◌, map, codes, decimal, Option, Some, None, option_and_then}
use Rattle.setl_value.specs.Datum.{Datum}
use Rattle.setl_base.specs.declared.Elt.{Elt}
use Rattle.setl_text.specs.Texts.{inner_text}
use Rattle.setl_modes_dump.specs.Dump.{part_text}
use Rattle.setl_modes.specs.Modes.{Mode}
use Rattle.setl_rep_bases.specs.Bases.{BasesState}
use Rattle.setl_rep_forms.specs.Form.{Form}
use Rattle.setl_rep_forms.specs.Stands.{stands}
use Rattle.setl_rep_maps.specs.Contents.{content_of}
use Rattle.setl_rep_layout.specs.Members.{members_by}

-- each text behind a blank
abbrev pub after_blanks : List (List ℕ) → List ℕ
after_blanks [] = []
after_blanks (t ∷ ts) = 32 ∷ t ++ after_blanks ts

abbrev pub inner_texts : List Datum → List (List ℕ)
inner_texts ds = map inner_text ds

abbrev pub decimals : List ℕ → List (List ℕ)
decimals ns = map decimal ns

-- the text of what a form stands for, by its mode; none for `om`
abbrev pub held_text : BasesState → Mode → Option Datum → List ℕ
held_text bs m None = []
held_text bs m (Some d) = part_text (members_by bs) m d

-- ---- handles

abbrev pub element_text : Elt → List ℕ
element_text e = codes "elmt " ++ decimal e.block

abbrev pub handle_text : Option Elt → List ℕ
handle_text None = codes "*"
handle_text (Some e) = decimal e.block

abbrev pub handle_texts : List (Option Elt) → List (List ℕ)
handle_texts es = map handle_text es

-- ---- maps

-- the text of the content of a number
abbrev pub content_text : BasesState → Mode → Form → ℕ → List ℕ
content_text bs m f n = held_text bs m (option_and_then (stands bs) (content_of f n))

-- the number, and in brackets the text of its content
abbrev pub entry_text : BasesState → Mode → Form → ℕ → List ℕ
entry_text bs m f n = decimal n ++ 40 ∷ content_text bs m f n ++ 41 ∷ []

abbrev pub entry_texts : BasesState → Mode → Form → List ℕ → List (List ℕ)
entry_texts bs m f ns = map (entry_text bs m f) ns
