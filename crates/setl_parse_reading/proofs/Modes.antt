-- Reading `repr` sections.
use Rattle.std.proofs.Common.{◌≡◌, ℕ, zero, suc, Bool, true, false, not, if◌then◌else◌, ◌++◌, Some, Ok, refl, ap, subst, ◌∙◌, arith, inl, inr}
use Rattle.setl_tree.specs.declared.kind.Kind.{Kind}
use Rattle.setl_tree.specs.declared.kind.Kind.TheVariants as k
use Rattle.setl_tree.specs.declared.mode.Attribute.TheVariants as at
use Rattle.setl_tree.specs.declared.mode.Core.{Core}
use Rattle.setl_tree.specs.declared.mode.Core.TheVariants as co
use Rattle.setl_tree.specs.declared.mode.WrittenMode.{WrittenMode, roll-WrittenMode}
use Rattle.setl_tree.specs.declared.mode.ReprLine.{ReprLine}
use Rattle.setl_tree.specs.declared.mode.ReprLine.TheVariants as rl
use Rattle.setl_tree.specs.Tokens.{Token, Tokens}
use Rattle.setl_tree.specs.Lang.{Lang, Then}
use Rattle.setl_tree.specs.Lang as lang
use Rattle.setl_tree.specs.Modes as grammar
use Rattle.setl_tree.specs.Modes.{attribute, simple_core}
use Rattle.setl_parse_reading.specs.Fronts.{opens_nesting}
use Rattle.setl_parse_reading.specs.code.Reading.{Reader, ◌>>=◌, pure, opening, expect, peek, one_of, is, but, begins_as, next_kind, same_kind, separated}
use Rattle.setl_parse_reading.specs.code.ReadModes as m
use Rattle.setl_parse_reading.proofs.EveryKind.{kinds}
use Rattle.setl_parse_reading.proofs.Laws.{Took, Law, Within, Begins, always, anything, took_as, law_of, chosen, within, within_always, same, law_then, law_map, law_expect, law_one_of, law_choose, law_as, law_opening, law_many, law_separated, law_optional, law_lined, law_name, bind_assoc, begins_token, begins_then, begins_or, begins_within, begins_one_of, begins_lined, begins_separated, follows_begins, follows_token, follows_then, follows_map, follows_optional, begins_optional, bind_ok}
use Rattle.setl_parse_reading.proofs.Regroup.{behind, assoc, unassoc, pure_then, then_pure, with_second}
use Rattle.setl_parse_reading.proofs.Exact.{Exact, weak, exact_then, exact_map, exact_expect, exact_one_of, exact_choose, exact_as, exact_by, exact_reads, exact_opening, exact_many, exact_optional, exact_separated, exact_lined, exact_name}
use Rattle.setl_parse_reading.proofs.Insides.{zero_or_more}
use Rattle.setl_parse_reading.proofs.Statements.{exact_ending, law_ending, begins_ending}

pub law_declared : Law m.declared grammar.declared always
unfolding m.declared grammar.declared
law_declared = law_map (λ t. record { line = t.line; name = t.text }) (law_expect k.Name)

pub exact_declared : {always : Bool} {room : ℕ} → Exact always room m.declared grammar.declared
unfolding m.declared grammar.declared opens_nesting
exact_declared = exact_map (λ t. record { line = t.line; name = t.text }) (exact_expect k.Name refl)

pub begins_declared : Begins (is k.Name) grammar.declared
unfolding grammar.declared same_kind
begins_declared = begins_then (begins_token k.Name refl)

-- behind the names of a declaration
pub law_names : {stops : Kind → Bool} → Within stops (but k.Comma) → Law (separated m.declared) (lang.separated grammar.declared) stops
law_names off = law_separated law_declared within_always within_always off

-- what begins a mode without its attribute
unfoldable pub starts_core : Kind → Bool
starts_core k.General = true
starts_core k.Int = true
starts_core k.Integer = true
starts_core k.String = true
starts_core k.Boolean = true
starts_core k.Atom = true
starts_core k.Elmt = true
starts_core k.Set = true
starts_core k.Tuple = true
starts_core k.Smap = true
starts_core k.Mmap = true
starts_core _ = false

abbrev pub starts_mode : Kind → Bool
starts_mode kind = if begins_as attribute kind then true else starts_core kind

module _ (room : ℕ) (deep : Reader WrittenMode) (D : Lang WrittenMode) (law_deep : (inside : ℕ) → room ≡ suc inside → Law deep D always) where
  abbrev round_l : Lang WrittenMode
  round_l = Then (lang.opening room k.LeftParen) (λ _. Then D (λ m. Then (lang.token k.RightParen) (λ _. lang.pure m)))

  abbrev braced_l : Lang WrittenMode
  braced_l = Then (lang.opening room k.LeftBrace) (λ _. Then D (λ m. Then (lang.token k.RightBrace) (λ _. lang.pure m)))

  law_round : Law (m.round_mode room deep) round_l always
  unfolding m.round_mode
  law_round = law_opening room k.LeftParen (λ i e _. law_then (law_deep i e) (λ d. law_map (λ _. d) (law_expect k.RightParen)) (λ d. anything))

  law_braced : Law (m.braced_mode room deep) braced_l always
  unfolding m.braced_mode
  law_braced = law_opening room k.LeftBrace (λ i e _. law_then (law_deep i e) (λ d. law_map (λ _. d) (law_expect k.RightBrace)) (λ d. anything))

  -- behind a bracketed mode there is room for a nesting
  law_behind : {B : Type 0} {part : Reader WrittenMode} {L : Lang WrittenMode} {f : WrittenMode → Reader B} {M : WrittenMode → Lang B} → Law part L always → ((toks : Tokens) (d : WrittenMode) → L toks d → room ≡ zero → ⊥)
      → ((inside : ℕ) → room ≡ suc inside → (d : WrittenMode) → Law (f d) (M d) always) → Law (part >>= f) (Then L M) always
  law_behind {part = part} {L = L} {f = f} law full behind = elim (zero_or_more room) [
    | inl none ↦ law_of
        (λ toks b rest h. let x = bind_ok (part toks) f (b, rest) h in let t = law.sound.took toks x.0.0 x.0.1 x.1 in absurd (full t.used x.0.0 t.spelled none))
        (λ used rest b s stop. absurd (full s.front s.value s.first none))
    | inr i ↦ law_then law (behind i.0 i.1) (λ d. anything)
  ]

  no_opening : (kind : Kind) (toks : Tokens) (t : Token) → lang.opening room kind toks t → room ≡ zero → ⊥
  no_opening kind toks t s none = subst (λ (z : ℕ). lang.opening z kind toks t) none s

  round_full : (toks : Tokens) (d : WrittenMode) → round_l toks d → room ≡ zero → ⊥
  round_full toks d s none = no_opening k.LeftParen s.front s.value s.first none

  braced_full : (toks : Tokens) (d : WrittenMode) → braced_l toks d → room ≡ zero → ⊥
  braced_full toks d s none = no_opening k.LeftBrace s.front s.value s.first none

  bracket_to : {B : Type 0} (opened closed : Kind) {K : WrittenMode → Lang B} {toks : Tokens} {y : B} → Then (Then (lang.opening room opened) (λ _. Then D (λ d. Then (lang.token closed) (λ _. lang.pure d)))) K toks y
      → Then (lang.opening room opened) (λ _. Then D (λ d. Then (lang.token closed) (λ _. K d))) toks y
  bracket_to opened closed s = behind (λ _ t y h. behind (λ d t y h. behind (λ _ t y h. pure_then h) (assoc h)) (assoc h)) (assoc s)

  bracket_from : {B : Type 0} (opened closed : Kind) {K : WrittenMode → Lang B} {toks : Tokens} {y : B} → Then (lang.opening room opened) (λ _. Then D (λ d. Then (lang.token closed) (λ _. K d))) toks y
      → Then (Then (lang.opening room opened) (λ _. Then D (λ d. Then (lang.token closed) (λ _. lang.pure d)))) K toks y
  bracket_from opened closed s = unassoc (behind (λ _ t y h. unassoc (behind (λ d t y h. unassoc (behind (λ _ t y h. then_pure h) h)) h)) s)

  -- ---- modes without attributes, as they are read

  abbrev element_l : Lang Core
  element_l = Then (lang.token k.Elmt) (λ t. Then lang.name (λ b. lang.pure (co.Elmt t.line b)))

  abbrev set_l : Lang Core
  set_l = Then (lang.token k.Set) (λ _. Then round_l (λ d. lang.pure (co.Set d)))

  abbrev tuple_l : Lang Core
  tuple_l = Then (lang.token k.Tuple) (λ _. Then round_l (λ d. lang.pure (co.Tuple d)))

  abbrev smap_l : Lang Core
  smap_l = Then (lang.token k.Smap) (λ _. Then round_l (λ d. Then D (λ r. lang.pure (co.Smap d r))))

  abbrev mmap_l : Lang Core
  mmap_l = Then (lang.token k.Mmap) (λ _. Then braced_l (λ d. Then D (λ r. lang.pure (co.Mmap d r))))

  law_element : Law m.element element_l always
  unfolding m.element
  law_element = law_then (law_expect k.Elmt) (λ t. law_map (λ b. co.Elmt t.line b) law_name) (λ t. anything)

  law_set : Law (m.core_by room deep k.Set) set_l always
  law_set = law_then (law_expect k.Set) (λ _. law_map co.Set law_round) (λ _. anything)

  law_tuple : Law (m.core_by room deep k.Tuple) tuple_l always
  law_tuple = law_then (law_expect k.Tuple) (λ _. law_map co.Tuple law_round) (λ _. anything)

  law_smap : Law (m.core_by room deep k.Smap) smap_l always
  law_smap = law_then (law_expect k.Smap) (λ _. law_behind law_round round_full (λ i e d. law_map (λ r. co.Smap d r) (law_deep i e))) (λ _. anything)

  law_mmap : Law (m.core_by room deep k.Mmap) mmap_l always
  law_mmap = law_then (law_expect k.Mmap) (λ _. law_behind law_braced braced_full (λ i e d. law_map (λ r. co.Mmap d r) (law_deep i e))) (λ _. anything)

  law_simple : Law (one_of simple_core) (lang.one_of simple_core) always
  unfolding simple_core
  law_simple = law_one_of simple_core refl

  core_sound : (kind : Kind) (toks : Tokens) (a : Core) (rest : Tokens) → m.core_by room deep kind toks ≡ Ok (a, rest) → Took (grammar.core room D) toks a rest
  unfolding grammar.core
  core_sound k.Elmt toks a rest h = took_as (law_element.sound.took toks a rest h) (λ u a s. inr (inl s))
  core_sound k.Set toks a rest h = took_as (law_set.sound.took toks a rest h) (λ u a s. inr (inr (inl (with_second s (bracket_to k.LeftParen k.RightParen s.second)))))
  core_sound k.Tuple toks a rest h = took_as (law_tuple.sound.took toks a rest h) (λ u a s. inr (inr (inr (inl (with_second s (bracket_to k.LeftParen k.RightParen s.second))))))
  core_sound k.Smap toks a rest h = took_as (law_smap.sound.took toks a rest h) (λ u a s. inr (inr (inr (inr (inl (with_second s (bracket_to k.LeftParen k.RightParen s.second)))))))
  core_sound k.Mmap toks a rest h = took_as (law_mmap.sound.took toks a rest h) (λ u a s. inr (inr (inr (inr (inr (with_second s (bracket_to k.LeftBrace k.RightBrace s.second)))))))
  core_sound _ toks a rest h = took_as (law_simple.sound.took toks a rest h) (λ u a s. inl s)

  -- the other kinds are read as words
  word_by : (kind : Kind) (a : Core) → simple_core kind ≡ Some a → (toks : Tokens) → m.core_by room deep kind toks ≡ one_of simple_core toks
  unfolding simple_core
  word_by k.Elmt a h toks = absurd cc
  word_by k.Set a h toks = absurd cc
  word_by k.Tuple a h toks = absurd cc
  word_by k.Smap a h toks = absurd cc
  word_by k.Mmap a h toks = absurd cc
  word_by _ a h toks = refl

  core_reads : (used rest : Tokens) (a : Core) → grammar.core room D used a → (peek >>= m.core_by room deep) (used ++ rest) ≡ Ok (a, rest)
  unfolding grammar.core same_kind
  core_reads used rest a (inl x) =
      let next : next_kind (used ++ rest) ≡ x.it.kind = ap (λ (z : Tokens). next_kind (z ++ rest)) x.alone in
      ap (λ (z : Kind). m.core_by room deep z (used ++ rest)) next ∙ word_by x.it.kind a x.means (used ++ rest) ∙ law_simple.complete.reads used rest a x refl
  core_reads used rest a (inr (inl x)) = chosen k.Elmt (m.core_by room deep) law_element (begins_then (begins_token k.Elmt refl)) used rest a x refl
  core_reads used rest a (inr (inr (inl x))) = chosen k.Set (m.core_by room deep) law_set (begins_then (begins_token k.Set refl)) used rest a (with_second x (bracket_from k.LeftParen k.RightParen x.second)) refl
  core_reads used rest a (inr (inr (inr (inl x)))) = chosen k.Tuple (m.core_by room deep) law_tuple (begins_then (begins_token k.Tuple refl)) used rest a (with_second x (bracket_from k.LeftParen k.RightParen x.second)) refl
  core_reads used rest a (inr (inr (inr (inr (inl x))))) = chosen k.Smap (m.core_by room deep) law_smap (begins_then (begins_token k.Smap refl)) used rest a (with_second x (bracket_from k.LeftParen k.RightParen x.second)) refl
  core_reads used rest a (inr (inr (inr (inr (inr x))))) = chosen k.Mmap (m.core_by room deep) law_mmap (begins_then (begins_token k.Mmap refl)) used rest a (with_second x (bracket_from k.LeftBrace k.RightBrace x.second)) refl

  law_core : Law (m.core room deep) (grammar.core room D) always
  unfolding m.core
  law_core = law_of (λ toks a rest h. core_sound (next_kind toks) toks a rest h) (λ used rest a x stop. core_reads used rest a x)

  simple_starts : Within (begins_as simple_core) starts_core
  unfolding kinds simple_core starts_core
  simple_starts = within refl

  begins_core : Begins starts_core (grammar.core room D)
  unfolding grammar.core starts_core
  begins_core = begins_or (begins_within (begins_one_of simple_core) simple_starts) (begins_or (begins_then (begins_token k.Elmt refl)) (begins_or (begins_then (begins_token k.Set refl))
      (begins_or (begins_then (begins_token k.Tuple refl)) (begins_or (begins_then (begins_token k.Smap refl)) (begins_then (begins_token k.Mmap refl))))))

  core_no_attribute : Within starts_core (λ kind. not (begins_as attribute kind))
  unfolding kinds starts_core attribute
  core_no_attribute = within refl

  law_with_attribute : Law (m.with_attribute room deep) (grammar.with_attribute room D) always
  unfolding m.with_attribute grammar.with_attribute attribute
  law_with_attribute = law_then (law_optional (law_one_of attribute refl) (begins_one_of attribute) within_always same) (λ a. law_map (λ c. (a, c)) law_core) (λ a. follows_map (follows_begins begins_core core_no_attribute))

  attribute_starts : Within (begins_as attribute) starts_mode
  unfolding kinds starts_core attribute
  attribute_starts = within refl

  core_starts : Within starts_core starts_mode
  unfolding kinds starts_core attribute
  core_starts = within refl

  begins_with_attribute : Begins starts_mode (grammar.with_attribute room D)
  unfolding grammar.with_attribute
  begins_with_attribute = begins_optional (begins_one_of attribute) attribute_starts (λ a. begins_then (begins_within begins_core core_starts))

  pub law_mode_in : Law (m.mode_in room deep) (grammar.mode_in room D) always
  unfolding m.mode_in grammar.mode_in
  law_mode_in = law_map (λ x. roll-WrittenMode (record { line = x.0; attribute = x.1.0; core = x.1.1 })) (law_lined law_with_attribute begins_with_attribute)

  -- ---- where reading stops

  module _ (exact_deep : (inside : ℕ) → room ≡ suc inside → Exact true inside deep D) where
    exact_round : Exact false room (m.round_mode room deep) round_l
    unfolding m.round_mode opens_nesting
    exact_round = exact_opening room k.LeftParen refl (λ i e _. exact_then (weak (exact_deep i e)) (λ d. exact_map (λ _. d) (exact_expect k.RightParen refl)))

    -- a bracketed mode and one behind it
    exact_both : (opened closed : Kind) → opens_nesting opened ≡ true → opens_nesting closed ≡ false → (f : WrittenMode → WrittenMode → Core) → Exact false room ((opening room opened >>= λ _. deep >>= λ d. expect closed >>= λ _. pure d) >>= λ d. deep >>= λ r. pure (f d r))
        (Then (lang.opening room opened) (λ _. Then D (λ d. Then (lang.token closed) (λ _. Then D (λ r. lang.pure (f d r))))))
    exact_both opened closed opens shuts f = exact_as
        (exact_reads (λ i. bind_assoc (opening room opened i) (λ _. deep >>= λ d. expect closed >>= λ _. pure d) (λ d. deep >>= λ r. pure (f d r)))
        (exact_opening room opened opens (λ i e _. exact_then (exact_then (weak (exact_deep i e)) (λ d. exact_map (λ _. d) (exact_expect closed shuts))) (λ d. exact_map (f d) (weak (exact_deep i e))))))
        (λ toks a h. behind (λ _ t y h. behind (λ d t y h. behind (λ _ t y h. pure_then h) (assoc h)) (assoc h)) h)

    exact_kind : (kind : Kind) → Exact false room (m.core_by room deep kind) (grammar.core room D)
    unfolding grammar.core m.element m.round_mode m.braced_mode simple_core opens_nesting kinds
    exact_kind k.Elmt = exact_as (exact_then (exact_expect k.Elmt refl) (λ t. exact_map (λ b. co.Elmt t.line b) exact_name)) (λ u a s. inr (inl s))
    exact_kind k.Set = exact_as (exact_then (exact_expect k.Set refl) (λ _. exact_map co.Set exact_round)) (λ u a s. inr (inr (inl (with_second s (bracket_to k.LeftParen k.RightParen s.second)))))
    exact_kind k.Tuple = exact_as (exact_then (exact_expect k.Tuple refl) (λ _. exact_map co.Tuple exact_round)) (λ u a s. inr (inr (inr (inl (with_second s (bracket_to k.LeftParen k.RightParen s.second))))))
    exact_kind k.Smap = exact_as (exact_then (exact_expect k.Smap refl) (λ _. exact_both k.LeftParen k.RightParen refl refl co.Smap)) (λ u a s. inr (inr (inr (inr (inl s)))))
    exact_kind k.Mmap = exact_as (exact_then (exact_expect k.Mmap refl) (λ _. exact_both k.LeftBrace k.RightBrace refl refl co.Mmap)) (λ u a s. inr (inr (inr (inr (inr s)))))
    exact_kind _ = exact_as (exact_one_of simple_core k.General co.General refl refl (within refl)) (λ u a s. inl s)

    exact_word : Exact true room (one_of simple_core) (grammar.core room D)
    unfolding grammar.core simple_core opens_nesting kinds
    exact_word = exact_as (exact_one_of simple_core k.General co.General refl refl (within refl)) (λ u a s. inl s)

    exact_core : {always : Bool} → Exact always room (m.core room deep) (grammar.core room D)
    unfolding m.core
    exact_core = exact_by exact_kind (λ _. exact_word.some (omega arith))

    exact_with_attribute : {always : Bool} → Exact always room (m.with_attribute room deep) (grammar.with_attribute room D)
    unfolding m.with_attribute grammar.with_attribute attribute opens_nesting kinds
    exact_with_attribute = exact_then (exact_optional (begins_as attribute) (exact_one_of attribute k.Local at.Local refl refl (within refl))) (λ a. exact_map (λ c. (a, c)) exact_core)

    pub exact_mode_in : {always : Bool} → Exact always room (m.mode_in room deep) (grammar.mode_in room D)
    unfolding m.mode_in grammar.mode_in
    exact_mode_in = exact_map (λ x. roll-WrittenMode (record { line = x.0; attribute = x.1.0; core = x.1.1 })) (exact_lined exact_with_attribute begins_with_attribute)

nested_mode : (room inside : ℕ) → room ≡ suc inside → Law (m.nested_mode room) (grammar.nested_mode room) always
unfolding m.nested_mode grammar.nested_mode
nested_mode zero inside h = absurd (omega (arith, h))
nested_mode (suc room) inside h = law_mode_in room (m.nested_mode room) (grammar.nested_mode room) (nested_mode room)

pub law_mode : (room : ℕ) → Law (m.mode room) (grammar.mode room) always
unfolding m.mode grammar.mode
law_mode room = law_mode_in room (m.nested_mode room) (grammar.nested_mode room) (nested_mode room)

pub exact_nested : (room inside : ℕ) → room ≡ suc inside → Exact true inside (m.nested_mode room) (grammar.nested_mode room)
unfolding m.nested_mode grammar.nested_mode
exact_nested zero inside h = absurd (omega (arith, h))
exact_nested (suc room) inside h = subst (λ (z : ℕ). Exact true z (m.nested_mode (suc room)) (grammar.nested_mode (suc room))) (omega (arith, h)) (exact_mode_in room (m.nested_mode room) (grammar.nested_mode room) (nested_mode room) (exact_nested room))

exact_mode : {always : Bool} (room : ℕ) → Exact always room (m.mode room) (grammar.mode room)
unfolding m.mode grammar.mode
exact_mode room = exact_mode_in room (m.nested_mode room) (grammar.nested_mode room) (nested_mode room) (exact_nested room)

-- ---- lines

module _ (room : ℕ) where
  abbrev colon_l : Lang WrittenMode
  colon_l = Then (lang.token k.Colon) (λ _. grammar.mode room)

  law_colon : Law (m.colon_mode room) colon_l always
  unfolding m.colon_mode
  law_colon = law_then (law_expect k.Colon) (λ _. law_mode room) (λ _. anything)

  begins_colon : Begins (is k.Colon) colon_l
  unfolding same_kind
  begins_colon = begins_then (begins_token k.Colon refl)

  -- behind the names
  abbrev colon_or_end : Kind → Bool
  colon_or_end kind = if is k.Colon kind then true else is k.Semicolon kind

  colon_no_comma : Within colon_or_end (but k.Comma)
  unfolding kinds same_kind
  colon_no_comma = within refl

  colon_is : Within (is k.Colon) colon_or_end
  unfolding kinds same_kind
  colon_is = within refl

  semicolon_is : Within (is k.Semicolon) colon_or_end
  unfolding kinds same_kind
  semicolon_is = within refl

  semicolon_no_colon : Within (is k.Semicolon) (but k.Colon)
  unfolding kinds same_kind
  semicolon_no_colon = within refl

  abbrev base_l : Lang ReprLine
  base_l = Then (lang.token k.Base) (λ t. Then (lang.separated grammar.declared) (λ xs. Then (lang.optional colon_l) (λ c. Then (lang.token k.Semicolon) (λ _. lang.pure (rl.Base t.line xs c)))))

  law_base : Law (m.base_line room) base_l always
  unfolding m.base_line same_kind
  law_base = law_then (law_expect k.Base) (λ t. law_then (law_names colon_no_comma) (λ xs. law_then (law_optional law_colon begins_colon within_always semicolon_no_colon)
      (λ c. law_map (λ _. rl.Base t.line xs c) (law_expect k.Semicolon)) (λ c. follows_token k.Semicolon refl))
      (λ xs. follows_then (follows_optional {stops = is k.Semicolon} begins_colon colon_is semicolon_is) (λ c. follows_token k.Semicolon refl))) (λ t. anything)

  begins_names : Begins (is k.Name) (lang.separated grammar.declared)
  begins_names = begins_separated begins_declared

  abbrev variables_l : Lang ReprLine
  variables_l = Then (lang.lined (lang.separated grammar.declared)) (λ xs. Then colon_l (λ c. Then (lang.token k.Semicolon) (λ _. lang.pure (rl.Variables xs.0 xs.1 c))))

  law_variables : Law (m.variables_line room) variables_l always
  unfolding m.variables_line
  law_variables = law_then (law_lined (law_names colon_no_comma) begins_names) (λ xs. law_then law_colon (λ c. law_map (λ _. rl.Variables xs.0 xs.1 c) (law_expect k.Semicolon)) (λ c. anything)) (λ xs. follows_begins (begins_then begins_colon) colon_is)

  base_no_name : Within (is k.Name) (but k.Base)
  unfolding kinds same_kind
  base_no_name = within refl

  law_line : Law (m.repr_line room) (grammar.repr_line room) always
  unfolding m.repr_line grammar.repr_line same_kind
  law_line = law_as (law_choose (is k.Base) law_base law_variables (follows_token k.Base refl) (follows_begins (begins_then (begins_lined begins_names)) base_no_name))
      (λ toks a s. elim s [ inl b ↦ inl b | inr v ↦ inr (behind (λ xs t y h. assoc h) v) ])
      (λ toks a s. elim s [ inl b ↦ inl b | inr v ↦ inr (behind (λ xs t y h. unassoc h) v) ])

  name_begins_line : Within (is k.Name) m.begins_line
  unfolding kinds same_kind m.begins_line
  name_begins_line = within refl

  begins_a_line : Begins m.begins_line (grammar.repr_line room)
  unfolding grammar.repr_line m.begins_line
  begins_a_line = begins_or (begins_then (begins_token k.Base refl)) (begins_then (begins_within (begins_lined begins_names) name_begins_line))

  end_no_line : Within (is k.End) (λ kind. not (m.begins_line kind))
  unfolding kinds same_kind m.begins_line
  end_no_line = within refl

  repr_no_semicolon : Within (is k.Semicolon) (but k.Repr)
  unfolding kinds same_kind
  repr_no_semicolon = within refl

  pub law_repr : Law (m.repr room) (grammar.repr room) always
  unfolding m.repr grammar.repr
  law_repr = law_then (law_expect k.Repr) (λ _. law_then (law_many law_line begins_a_line within_always within_always end_no_line) (λ lines. law_map (λ _. lines) (law_ending k.Repr repr_no_semicolon))
      (λ lines. follows_begins (begins_then (begins_ending k.Repr)) same)) (λ _. anything)

  pub begins_repr : Begins (is k.Repr) (grammar.repr room)
  unfolding grammar.repr same_kind
  begins_repr = begins_then (begins_token k.Repr refl)

  -- ---- where reading stops

  exact_colon : {always : Bool} → Exact always room (m.colon_mode room) colon_l
  unfolding m.colon_mode opens_nesting
  exact_colon = exact_then (exact_expect k.Colon refl) (λ _. exact_mode room)

  exact_base : {always : Bool} → Exact always room (m.base_line room) base_l
  unfolding m.base_line opens_nesting
  exact_base = exact_then (exact_expect k.Base refl) (λ t. exact_then (exact_separated exact_declared) (λ xs. exact_then (exact_optional (is k.Colon) exact_colon) (λ c. exact_map (λ _. rl.Base t.line xs c) (exact_expect k.Semicolon refl))))

  exact_variables : {always : Bool} → Exact always room (m.variables_line room) variables_l
  unfolding m.variables_line opens_nesting
  exact_variables = exact_then (exact_lined (exact_separated exact_declared) begins_names) (λ xs. exact_then exact_colon (λ c. exact_map (λ _. rl.Variables xs.0 xs.1 c) (exact_expect k.Semicolon refl)))

  exact_line : {always : Bool} → Exact always room (m.repr_line room) (grammar.repr_line room)
  unfolding m.repr_line grammar.repr_line
  exact_line = exact_as (exact_choose (is k.Base) exact_base exact_variables) (λ toks a s. elim s [ inl b ↦ inl b | inr v ↦ inr (behind (λ xs t y h. assoc h) v) ])

  pub exact_repr : {always : Bool} → Exact always room (m.repr room) (grammar.repr room)
  unfolding m.repr grammar.repr opens_nesting
  exact_repr = exact_then (exact_expect k.Repr refl) (λ _. exact_then (exact_many m.begins_line exact_line begins_a_line) (λ lines. exact_map (λ _. lines) (exact_ending k.Repr refl)))
