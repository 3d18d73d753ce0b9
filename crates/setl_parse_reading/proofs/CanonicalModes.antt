-- The canonical tokens of a `repr` section derive it.
use Rattle.std.proofs.Common.{◌≡◌, ℕ, zero, suc, ◌+◌, List, [], ◌∷◌, ◌++◌, Option, Some, None, refl, sym, ap, subst, ◌∙◌, arith, inl, inr}
use Rattle.std.proofs.lemmas.List.{append-nil}
use Rattle.setl_tree.specs.declared.kind.Kind.{Kind}
use Rattle.setl_tree.specs.declared.kind.Kind.TheVariants as k
use Rattle.setl_tree.specs.declared.mode.Attribute.{Attribute}
use Rattle.setl_tree.specs.declared.mode.Core.{Core, fold-Core, fold-roll-Core}
use Rattle.setl_tree.specs.declared.mode.Core.TheVariants as co
use Rattle.setl_tree.specs.declared.mode.Core.TheOpen.{Core-F}
use Rattle.setl_tree.specs.declared.mode.WrittenMode.{WrittenMode, roll-WrittenMode, fold-roll-WrittenMode}
use Rattle.setl_tree.specs.Modes as m
use Rattle.setl_tree.specs.Modes.{attribute, simple_core}
use Rattle.setl_tree.specs.Canonical.{sign_at, sign, name_token, bracketed, attribute_kind, core_step, mode_step, mode_tokens, with_attribute}
use Rattle.setl_tree.specs.Tokens.{Tokens}
use Rattle.setl_tree.specs.Lang.{Lang, Then, line_of}
use Rattle.setl_tree.specs.Lang as lang
use Rattle.setl_parse_reading.specs.code.Reading.{same_kind}
use Rattle.setl_parse_reading.proofs.EveryKind.{kinds}
use Rattle.setl_parse_reading.proofs.Building.{last, some_is, Spells, seq, then_token, then_name, then_opening, then_nothing, then_some, ends}
use Rattle.setl_parse_reading.proofs.CanonicalExpressions.{means_back}
use Rattle.setl_parse_reading.proofs.CanonicalStatements.{outer}

abbrev core_tokens : Core → ℕ → Tokens
core_tokens = fold-Core (ℕ → Tokens) Tokens core_step mode_step

abbrev at_line : {f g : ℕ → Tokens} → f ≡ g → (line : ℕ) → f line ≡ g line
at_line h line = ap (λ (f : ℕ → Tokens). f line) h

mode_is : (line : ℕ) (a : Option Attribute) (c : Core) → mode_tokens (roll-WrittenMode (record { line = line; attribute = a; core = c })) ≡ with_attribute line a (core_tokens c)
mode_is line a c = fold-roll-WrittenMode (ℕ → Tokens) Tokens core_step mode_step (record { line = line; attribute = a; core = c })

is_general : (line : ℕ) → core_tokens co.General line ≡ sign_at line k.General ∷ []
is_general line = at_line (ap core_tokens (sym co.rolls-General) ∙ fold-roll-Core (ℕ → Tokens) Tokens core_step mode_step Core-F.General) line

is_int : (line : ℕ) → core_tokens co.Int line ≡ sign_at line k.Int ∷ []
is_int line = at_line (ap core_tokens (sym co.rolls-Int) ∙ fold-roll-Core (ℕ → Tokens) Tokens core_step mode_step Core-F.Int) line

is_str : (line : ℕ) → core_tokens co.Str line ≡ sign_at line k.String ∷ []
is_str line = at_line (ap core_tokens (sym co.rolls-Str) ∙ fold-roll-Core (ℕ → Tokens) Tokens core_step mode_step Core-F.Str) line

is_boolean : (line : ℕ) → core_tokens co.Boolean line ≡ sign_at line k.Boolean ∷ []
is_boolean line = at_line (ap core_tokens (sym co.rolls-Boolean) ∙ fold-roll-Core (ℕ → Tokens) Tokens core_step mode_step Core-F.Boolean) line

is_atom : (line : ℕ) → core_tokens co.Atom line ≡ sign_at line k.Atom ∷ []
is_atom line = at_line (ap core_tokens (sym co.rolls-Atom) ∙ fold-roll-Core (ℕ → Tokens) Tokens core_step mode_step Core-F.Atom) line

is_elmt : (l : ℕ) (b : List ℕ) (line : ℕ) → core_tokens (co.Elmt l b) line ≡ sign_at l k.Elmt ∷ name_token b ∷ []
is_elmt l b line = at_line (ap core_tokens (sym (co.rolls-Elmt l b)) ∙ fold-roll-Core (ℕ → Tokens) Tokens core_step mode_step (Core-F.Elmt l b)) line

is_set : (d : WrittenMode) (line : ℕ) → core_tokens (co.Set d) line ≡ sign_at line k.Set ∷ bracketed k.LeftParen (mode_tokens d) k.RightParen
is_set d line = at_line (ap core_tokens (sym (co.rolls-Set d)) ∙ fold-roll-Core (ℕ → Tokens) Tokens core_step mode_step (Core-F.Set d)) line

is_tuple : (d : WrittenMode) (line : ℕ) → core_tokens (co.Tuple d) line ≡ sign_at line k.Tuple ∷ bracketed k.LeftParen (mode_tokens d) k.RightParen
is_tuple d line = at_line (ap core_tokens (sym (co.rolls-Tuple d)) ∙ fold-roll-Core (ℕ → Tokens) Tokens core_step mode_step (Core-F.Tuple d)) line

is_smap : (d r : WrittenMode) (line : ℕ) → core_tokens (co.Smap d r) line ≡ sign_at line k.Smap ∷ sign k.LeftParen ∷ (mode_tokens d ++ sign k.RightParen ∷ mode_tokens r)
is_smap d r line = at_line (ap core_tokens (sym (co.rolls-Smap d r)) ∙ fold-roll-Core (ℕ → Tokens) Tokens core_step mode_step (Core-F.Smap d r)) line

is_mmap : (d r : WrittenMode) (line : ℕ) → core_tokens (co.Mmap d r) line ≡ sign_at line k.Mmap ∷ sign k.LeftBrace ∷ (mode_tokens d ++ sign k.RightBrace ∷ mode_tokens r)
is_mmap d r line = at_line (ap core_tokens (sym (co.rolls-Mmap d r)) ∙ fold-roll-Core (ℕ → Tokens) Tokens core_step mode_step (Core-F.Mmap d r)) line

-- ---- modes

abbrev core_l : ℕ → Tokens → Core → Type 0
core_l room = m.core room (m.nested_mode room)

-- from these tokens a mode was derived
abbrev CoreGood : Tokens → Core → Type 0
CoreGood toks c = (line : ℕ) → Spells core_l (core_tokens c line) c × (line_of toks ≡ line → line_of (core_tokens c line) ≡ line)

abbrev ModeGood : WrittenMode → Type 0
ModeGood y = Spells m.mode (mode_tokens y) y

made : (toks : Tokens) (y z : Core) (toks_of : ℕ → Tokens) → y ≡ z → ((line : ℕ) → core_tokens y line ≡ toks_of line) → ((line : ℕ) → line_of toks ≡ line → line_of (toks_of line) ≡ line) → ((line : ℕ) → Spells core_l (toks_of line) y) → CoreGood toks z
made toks y z toks_of same tokens lines h = subst (CoreGood toks) same (λ line. (subst (λ (t : Tokens). Spells core_l t y) (sym (tokens line)) (h line), λ first. ap line_of (tokens line) ∙ lines line first))

simple_at : (room line : ℕ) (kind : Kind) (y : Core) → simple_core kind ≡ Some y → core_l room (sign_at line kind ∷ []) y
unfolding m.core
simple_at room line kind y h = inl (record { it = sign_at line kind; alone = refl; means = h })

simple_made : (toks : Tokens) (kind : Kind) (y z : Core) → simple_core kind ≡ Some y → y ≡ z → ((line : ℕ) → core_tokens y line ≡ sign_at line kind ∷ []) → CoreGood toks z
simple_made toks kind y z h same tokens = made toks y z (λ line. sign_at line kind ∷ []) same tokens (λ line first. refl) (λ line. record { from = 0; at = λ room le. simple_at room line kind y h })

simple_good : (toks : Tokens) (kind : Kind) (y : Core) → simple_core kind ≡ Some y → CoreGood toks y
unfolding simple_core
simple_good toks k.General y h = simple_made toks k.General co.General y refl (some_is h) is_general
simple_good toks k.Int y h = simple_made toks k.Int co.Int y refl (some_is h) is_int
simple_good toks k.Integer y h = simple_made toks k.Int co.Int y refl (some_is h) is_int
simple_good toks k.String y h = simple_made toks k.String co.Str y refl (some_is h) is_str
simple_good toks k.Boolean y h = simple_made toks k.Boolean co.Boolean y refl (some_is h) is_boolean
simple_good toks k.Atom y h = simple_made toks k.Atom co.Atom y refl (some_is h) is_atom
simple_good toks _ y h = absurd cc

element_at : (room l : ℕ) (b : List ℕ) → core_l room (sign_at l k.Elmt ∷ name_token b ∷ []) (co.Elmt l b)
unfolding m.core
element_at room l b = inr (inl (then_token (sign_at l k.Elmt) (name_token b ∷ []) refl (then_name 0 b [] ends)))

set_at : (n line : ℕ) (d : WrittenMode) → m.mode n (mode_tokens d) d → core_l (suc n) (sign_at line k.Set ∷ bracketed k.LeftParen (mode_tokens d) k.RightParen) (co.Set d)
unfolding m.core m.nested_mode m.mode
set_at n line d h = inr (inr (inl (then_token (sign_at line k.Set) (bracketed k.LeftParen (mode_tokens d) k.RightParen) refl (then_opening n (sign k.LeftParen) (mode_tokens d ++ sign k.RightParen ∷ []) refl
    (seq (mode_tokens d) (sign k.RightParen ∷ []) d h (then_token (sign k.RightParen) [] refl ends))))))

tuple_at : (n line : ℕ) (d : WrittenMode) → m.mode n (mode_tokens d) d → core_l (suc n) (sign_at line k.Tuple ∷ bracketed k.LeftParen (mode_tokens d) k.RightParen) (co.Tuple d)
unfolding m.core m.nested_mode m.mode
tuple_at n line d h = inr (inr (inr (inl (then_token (sign_at line k.Tuple) (bracketed k.LeftParen (mode_tokens d) k.RightParen) refl (then_opening n (sign k.LeftParen) (mode_tokens d ++ sign k.RightParen ∷ []) refl
    (seq (mode_tokens d) (sign k.RightParen ∷ []) d h (then_token (sign k.RightParen) [] refl ends)))))))

smap_at : (n line : ℕ) (d r : WrittenMode) → m.mode n (mode_tokens d) d → m.mode n (mode_tokens r) r → core_l (suc n) (sign_at line k.Smap ∷ sign k.LeftParen ∷ (mode_tokens d ++ sign k.RightParen ∷ mode_tokens r)) (co.Smap d r)
unfolding m.core m.nested_mode m.mode
smap_at n line d r h g = inr (inr (inr (inr (inl (then_token (sign_at line k.Smap) (sign k.LeftParen ∷ (mode_tokens d ++ sign k.RightParen ∷ mode_tokens r)) refl (then_opening n (sign k.LeftParen) (mode_tokens d ++ sign k.RightParen ∷ mode_tokens r) refl
    (seq (mode_tokens d) (sign k.RightParen ∷ mode_tokens r) d h (then_token (sign k.RightParen) (mode_tokens r) refl (last (λ r. co.Smap d r) (mode_tokens r) r g)))))))))

mmap_at : (n line : ℕ) (d r : WrittenMode) → m.mode n (mode_tokens d) d → m.mode n (mode_tokens r) r → core_l (suc n) (sign_at line k.Mmap ∷ sign k.LeftBrace ∷ (mode_tokens d ++ sign k.RightBrace ∷ mode_tokens r)) (co.Mmap d r)
unfolding m.core m.nested_mode m.mode
mmap_at n line d r h g = inr (inr (inr (inr (inr (then_token (sign_at line k.Mmap) (sign k.LeftBrace ∷ (mode_tokens d ++ sign k.RightBrace ∷ mode_tokens r)) refl (then_opening n (sign k.LeftBrace) (mode_tokens d ++ sign k.RightBrace ∷ mode_tokens r) refl
    (seq (mode_tokens d) (sign k.RightBrace ∷ mode_tokens r) d h (then_token (sign k.RightBrace) (mode_tokens r) refl (last (λ r. co.Mmap d r) (mode_tokens r) r g)))))))))

attribute_back : (kind : Kind) (o : Attribute) → attribute kind ≡ Some o → attribute (attribute_kind o) ≡ Some o
unfolding kinds same_kind attribute
attribute_back kind o h = means_back attribute_kind attribute refl kind o h

module _ (room : ℕ) (D : Lang WrittenMode) (good : (t : Tokens) (y : WrittenMode) → D t y → ModeGood y) where
  core_good : (toks : Tokens) (y : Core) → m.core room D toks y → CoreGood toks y
  unfolding m.core
  core_good toks y (inl h) = simple_good toks h.it.kind y h.means
  core_good toks y (inr (inl h)) =
      let l = h.value.line in
      let here : line_of toks ≡ l = ap line_of (h.parts ∙ ap (λ (z : Tokens). z ++ h.back) h.first.alone) in
      made toks (co.Elmt l h.second.value) y (λ line. sign_at l k.Elmt ∷ name_token h.second.value ∷ []) h.second.second.1 (is_elmt l h.second.value) (λ line first. sym here ∙ first)
      (λ line. record { from = 0; at = λ room le. element_at room l h.second.value })
  core_good toks y (inr (inr (inl h))) =
      let d = h.second.second in
      let g = good d.front d.value d.first in
      let all : ℕ → Tokens = λ line. sign_at line k.Set ∷ bracketed k.LeftParen (mode_tokens d.value) k.RightParen in
      made toks (co.Set d.value) y all d.second.second.1 (is_set d.value) (λ line first. refl) (λ line. outer core_l (all line) (co.Set d.value) g.from (λ n le. set_at n line d.value (g.at n le)))
  core_good toks y (inr (inr (inr (inl h)))) =
      let d = h.second.second in
      let g = good d.front d.value d.first in
      let all : ℕ → Tokens = λ line. sign_at line k.Tuple ∷ bracketed k.LeftParen (mode_tokens d.value) k.RightParen in
      made toks (co.Tuple d.value) y all d.second.second.1 (is_tuple d.value) (λ line first. refl) (λ line. outer core_l (all line) (co.Tuple d.value) g.from (λ n le. tuple_at n line d.value (g.at n le)))
  core_good toks y (inr (inr (inr (inr (inl h))))) =
      let d = h.second.second in
      let r = d.second.second in
      let g = good d.front d.value d.first in
      let f = good r.front r.value r.first in
      let all : ℕ → Tokens = λ line. sign_at line k.Smap ∷ sign k.LeftParen ∷ (mode_tokens d.value ++ sign k.RightParen ∷ mode_tokens r.value) in
      made toks (co.Smap d.value r.value) y all r.second.1 (is_smap d.value r.value) (λ line first. refl) (λ line. outer core_l (all line) (co.Smap d.value r.value) (g.from + f.from) (λ n le. smap_at n line d.value r.value (g.at n (omega (arith, le))) (f.at n (omega (arith, le)))))
  core_good toks y (inr (inr (inr (inr (inr h))))) =
      let d = h.second.second in
      let r = d.second.second in
      let g = good d.front d.value d.first in
      let f = good r.front r.value r.first in
      let all : ℕ → Tokens = λ line. sign_at line k.Mmap ∷ sign k.LeftBrace ∷ (mode_tokens d.value ++ sign k.RightBrace ∷ mode_tokens r.value) in
      made toks (co.Mmap d.value r.value) y all r.second.1 (is_mmap d.value r.value) (λ line first. refl) (λ line. outer core_l (all line) (co.Mmap d.value r.value) (g.from + f.from) (λ n le. mmap_at n line d.value r.value (g.at n (omega (arith, le))) (f.at n (omega (arith, le)))))

  -- with the attribute in front, or alone
  none_at : (room line : ℕ) (c : Core) → line_of (core_tokens c line) ≡ line → core_l room (core_tokens c line) c → m.mode room (core_tokens c line) (roll-WrittenMode (record { line = line; attribute = None; core = c }))
  unfolding m.mode m.mode_in m.with_attribute
  none_at room line c first h = last (λ z. roll-WrittenMode (record { line = z.0; attribute = z.1.0; core = z.1.1 })) (core_tokens c line) (line, (None, c)) (first, then_nothing (core_tokens c line) (last (λ c. (None, c)) (core_tokens c line) c h))

  some_at : (room line : ℕ) (a : Attribute) (c : Core) → attribute (attribute_kind a) ≡ Some a → core_l room (core_tokens c 0) c → m.mode room (sign_at line (attribute_kind a) ∷ core_tokens c 0) (roll-WrittenMode (record { line = line; attribute = Some a; core = c }))
  unfolding m.mode m.mode_in m.with_attribute
  some_at room line a c means h = last (λ z. roll-WrittenMode (record { line = z.0; attribute = z.1.0; core = z.1.1 })) (sign_at line (attribute_kind a) ∷ core_tokens c 0) (line, (Some a, c))
      (refl, then_some (sign_at line (attribute_kind a) ∷ []) (core_tokens c 0) a (record { it = sign_at line (attribute_kind a); alone = refl; means = means }) (last (λ c. (Some a, c)) (core_tokens c 0) c h))

  attributed : (toks : Tokens) (line : ℕ) (o : Option Attribute) (c : Core) (front back : Tokens) → line_of toks ≡ line → toks ≡ front ++ back → lang.optional (lang.one_of attribute) front o → CoreGood back c
      → ModeGood (roll-WrittenMode (record { line = line; attribute = o; core = c }))
  attributed toks line None c front back first parts o g =
      let here : line_of back ≡ line = ap line_of (sym (parts ∙ ap (λ (z : Tokens). z ++ back) o)) ∙ first in
      let s = g line in
      let y = roll-WrittenMode (record { line = line; attribute = None; core = c }) in
      subst (λ (t : Tokens). Spells m.mode t y) (sym (mode_is line None c)) (record { from = s.0.from; at = λ room le. none_at room line c (s.1 here) (s.0.at room le) })
  attributed toks line (Some a) c front back first parts o g =
      let s = g 0 in
      let y = roll-WrittenMode (record { line = line; attribute = Some a; core = c }) in
      subst (λ (t : Tokens). Spells m.mode t y) (sym (mode_is line (Some a) c)) (record { from = s.0.from; at = λ room le. some_at room line a c (attribute_back o.it.kind a o.means) (s.0.at room le) })

  mode_good : (toks : Tokens) (y : WrittenMode) → m.mode_in room D toks y → ModeGood y
  unfolding m.mode_in m.with_attribute
  mode_good toks y h =
      let w = h.first.1 in
      let c = w.second in
      let all = attributed h.front h.value.0 w.value c.value w.front c.front h.first.0 (w.parts ∙ ap (λ (z : Tokens). w.front ++ z) (c.parts ∙ ap (λ (z : Tokens). c.front ++ z) c.second.0 ∙ append-nil c.front)) w.first (core_good c.front c.value c.first) in
      let same : (w.value, c.value) ≡ h.value.1 = c.second.1 in
      subst ModeGood h.second.1 (subst (λ (z : Option Attribute × Core). ModeGood (roll-WrittenMode (record { line = h.value.0; attribute = z.0; core = z.1 }))) same all)

nested_mode_good : (room : ℕ) (toks : Tokens) (y : WrittenMode) → m.nested_mode room toks y → ModeGood y
unfolding m.nested_mode
nested_mode_good zero toks y h = absurd h
nested_mode_good (suc room) toks y h = mode_good room (m.nested_mode room) (nested_mode_good room) toks y h

pub written_mode_good : (room : ℕ) (toks : Tokens) (y : WrittenMode) → m.mode room toks y → ModeGood y
unfolding m.mode
written_mode_good room toks y h = mode_good room (m.nested_mode room) (nested_mode_good room) toks y h
