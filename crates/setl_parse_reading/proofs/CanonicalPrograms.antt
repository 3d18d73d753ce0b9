-- The canonical tokens of a program derive it.
use Rattle.std.proofs.Common.{◌≡◌, ℕ, suc, ◌+◌, List, [], ◌∷◌, ◌++◌, map, Option, Some, None, unwrap_or, refl, sym, ap, subst, ◌∙◌, append_assoc, arith, inl, inr}
use Rattle.std.proofs.lemmas.List.{append-nil}
use Rattle.setl_tree.specs.declared.kind.Kind.{Kind}
use Rattle.setl_tree.specs.declared.kind.Kind.TheVariants as k
use Rattle.setl_tree.specs.declared.mode.WrittenMode.{WrittenMode}
use Rattle.setl_tree.specs.declared.mode.ReprLine.{ReprLine}
use Rattle.setl_tree.specs.declared.mode.ReprLine.TheVariants as rl
use Rattle.setl_tree.specs.declared.stmt.Stmt.{Stmt}
use Rattle.setl_tree.specs.declared.tree.Declared.{Declared}
use Rattle.setl_tree.specs.declared.tree.Param.{Param}
use Rattle.setl_tree.specs.declared.tree.Passing.{Passing}
use Rattle.setl_tree.specs.declared.tree.Passing.TheVariants as pa
use Rattle.setl_tree.specs.declared.tree.Proc.{Proc}
use Rattle.setl_tree.specs.declared.tree.Tree.{Tree}
use Rattle.setl_tree.specs.Tokens.{Token, Tokens}
use Rattle.setl_tree.specs.Lang.{Lang, Then, line_of}
use Rattle.setl_tree.specs.Lang as lang
use Rattle.setl_tree.specs.Statements as s
use Rattle.setl_tree.specs.Modes as m
use Rattle.setl_tree.specs.Programs as p
use Rattle.setl_tree.specs.Programs.{passing, joined, Derives}
use Rattle.setl_tree.specs.Canonical.{sign_at, sign, name_at, name_token, with_commas, all_of, mode_tokens, declared_tokens, colon_tokens, line_tokens, repr_tokens, ending_tokens, passing_kind, param_tokens, optional_name, named_ending_tokens, proc_tokens, var_tokens, canonical}
use Rattle.setl_parse_reading.proofs.Building.{last, Spells, seq, then_token, then_name, then_opening, then_some, ends, AllOf, OfSome, from_many, from_optional, from_separated, spells_many, spells_several, spells_listed, spells_separated}
use Rattle.setl_parse_reading.proofs.StatementParts.{body_tokens}
use Rattle.setl_parse_reading.proofs.CanonicalStatements.{outer, ending_good, stmts_good}
use Rattle.setl_parse_reading.proofs.CanonicalModes.{written_mode_good}

-- ---- declarations

declared_at : (d : Declared) → m.declared (declared_tokens d) d
unfolding m.declared
declared_at d = then_token (name_at d.line d.name) [] refl ends

declared_good : (d : Declared) → Spells (λ _. m.declared) (declared_tokens d) d
declared_good d = record { from = 0; at = λ room le. declared_at d }

everything : {A : Type 0} {P : A → Type 0} → ((a : A) → P a) → (xs : List A) → AllOf P xs
everything good [] = tt
everything good (x ∷ xs) = (good x, everything good xs)

names_at : (xs : List Declared) (toks : Tokens) → lang.separated m.declared toks xs → lang.separated m.declared (with_commas (map declared_tokens xs)) xs
names_at xs toks h =
    let list = spells_several declared_tokens (λ _. m.declared) xs (from_separated m.declared (λ d. Spells (λ _. m.declared) (declared_tokens d) d) (λ t d g. declared_good d) toks xs h) in
    list.at list.from (omega arith)

first_line : (toks : Tokens) (xs : List Declared) → lang.separated m.declared toks xs → line_of (with_commas (map declared_tokens xs)) ≡ line_of toks
unfolding m.declared
first_line toks xs h =
    let t = h.first.value in
    let front : h.front ≡ t ∷ [] = h.first.parts ∙ (λ i. h.first.first.alone i ++ h.first.second.0 i) in
    let here : line_of toks ≡ t.line = ap line_of (h.parts ∙ ap (λ (z : Tokens). z ++ h.back) front) in
    let same : t.line ≡ h.value.line = ap (λ (d : Declared). d.line) h.first.second.1 in
    subst (λ (z : List Declared). line_of (with_commas (map declared_tokens z)) ≡ line_of toks) h.second.second.1 (sym (here ∙ same))

-- ---- `repr` sections

abbrev LineGood : ReprLine → Type 0
LineGood y = Spells m.repr_line (line_tokens y) y

colon_good : (o : Option WrittenMode) → OfSome (λ y. Spells m.mode (mode_tokens y) y) o → Spells (λ room. lang.optional (Then (lang.token k.Colon) (λ _. m.mode room))) (colon_tokens o) o
colon_good None g = record { from = 0; at = λ room le. refl }
colon_good (Some y) g = record { from = g.from; at = λ room le. then_token (sign k.Colon) (mode_tokens y) refl (g.at room le) }

base_at : (room line : ℕ) (xs : List Declared) (o : Option WrittenMode) → lang.separated m.declared (with_commas (map declared_tokens xs)) xs → lang.optional (Then (lang.token k.Colon) (λ _. m.mode room)) (colon_tokens o) o → m.repr_line room (line_tokens (rl.Base line xs o)) (rl.Base line xs o)
unfolding m.repr_line
base_at room line xs o one two = inl (then_token (sign_at line k.Base) (with_commas (map declared_tokens xs) ++ (colon_tokens o ++ sign k.Semicolon ∷ [])) refl
    (seq (with_commas (map declared_tokens xs)) (colon_tokens o ++ sign k.Semicolon ∷ []) xs one (seq (colon_tokens o) (sign k.Semicolon ∷ []) o two (then_token (sign k.Semicolon) [] refl ends))))

variables_at : (room line : ℕ) (xs : List Declared) (y : WrittenMode) → line_of (with_commas (map declared_tokens xs)) ≡ line → lang.separated m.declared (with_commas (map declared_tokens xs)) xs → m.mode room (mode_tokens y) y → m.repr_line room (line_tokens (rl.Variables line xs y)) (rl.Variables line xs y)
unfolding m.repr_line
variables_at room line xs y first one two = inr (seq (with_commas (map declared_tokens xs)) (sign k.Colon ∷ (mode_tokens y ++ sign k.Semicolon ∷ [])) (line, xs) (first, one) (then_token (sign k.Colon) (mode_tokens y ++ sign k.Semicolon ∷ []) refl
    (seq (mode_tokens y) (sign k.Semicolon ∷ []) y two (then_token (sign k.Semicolon) [] refl ends))))

line_good : (room : ℕ) (toks : Tokens) (y : ReprLine) → m.repr_line room toks y → LineGood y
unfolding m.repr_line
line_good room toks y (inl h) =
    let xs = h.second in
    let o = xs.second in
    let g = colon_good o.value (from_optional (Then (lang.token k.Colon) (λ _. m.mode room)) (λ y. Spells m.mode (mode_tokens y) y) (λ t y g. written_mode_good room g.back y g.second) o.front o.value o.first) in
    subst LineGood o.second.second.1 (record { from = g.from; at = λ room le. base_at room h.value.line xs.value o.value (names_at xs.value xs.front xs.first) (g.at room le) })
line_good room toks y (inr h) =
    let w = h.second.second in
    let g = written_mode_good room w.front w.value w.first in
    subst LineGood w.second.second.1 (record { from = g.from; at = λ room le. variables_at room h.value.0 h.value.1 w.value (first_line h.front h.value.1 h.first.1 ∙ h.first.0) (names_at h.value.1 h.front h.first.1) (g.at room le) })

repr_at : (room : ℕ) (y : ReprLine) (ys : List ReprLine) → lang.many (m.repr_line room) (all_of (map line_tokens (y ∷ ys))) (y ∷ ys) → m.repr room (repr_tokens (y ∷ ys)) (y ∷ ys)
unfolding m.repr
repr_at room y ys h = then_token (sign k.Repr) (all_of (map line_tokens (y ∷ ys)) ++ ending_tokens k.Repr) refl
    (seq (all_of (map line_tokens (y ∷ ys))) (ending_tokens k.Repr) (y ∷ ys) h (seq (ending_tokens k.Repr) [] (sign k.Semicolon) (ending_good k.Repr) ends))

-- a section, if it has lines
record ReprGood (lines : List ReprLine) : Type 0 where
  section : Option (List ReprLine)
  is : unwrap_or section [] ≡ lines
  good : Spells (λ room. lang.optional (m.repr room)) (repr_tokens lines) section

lines_good : (lines : List ReprLine) → AllOf LineGood lines → ReprGood lines
lines_good [] all = record { section = None; is = refl; good = record { from = 0; at = λ room le. refl } }
lines_good (y ∷ ys) all =
    let list = spells_many line_tokens m.repr_line (y ∷ ys) all in
    record { section = Some (y ∷ ys); is = refl; good = record { from = list.from; at = λ room le. repr_at room y ys (list.at room le) } }

repr_lines : (room : ℕ) (toks : Tokens) (lines : List ReprLine) → m.repr room toks lines → AllOf LineGood lines
unfolding m.repr
repr_lines room toks lines h = subst (AllOf LineGood) h.second.second.second.1 (from_many (m.repr_line room) LineGood (line_good room) h.second.front h.second.value h.second.first)

section_lines : (room : ℕ) (toks : Tokens) (o : Option (List ReprLine)) → lang.optional (m.repr room) toks o → AllOf LineGood (unwrap_or o [])
section_lines room toks None h = tt
section_lines room toks (Some lines) h = repr_lines room toks lines h

-- ---- variables

record VarsGood (xs : List Declared) : Type 0 where
  groups : List (List Declared)
  is : joined groups ≡ xs
  good : lang.many p.var (var_tokens xs) groups

var_at : (x : Declared) (xs : List Declared) → p.var (var_tokens (x ∷ xs)) (x ∷ xs)
unfolding p.var
var_at x xs =
    let list = spells_separated declared_tokens (λ _. m.declared) x xs (declared_good x) (everything declared_good xs) in
    then_token (sign k.Var) (with_commas (map declared_tokens (x ∷ xs)) ++ sign k.Semicolon ∷ []) refl (seq (with_commas (map declared_tokens (x ∷ xs))) (sign k.Semicolon ∷ []) (x ∷ xs) (list.at list.from (omega arith)) (then_token (sign k.Semicolon) [] refl ends))

vars_good : (xs : List Declared) → VarsGood xs
vars_good [] = record { groups = []; is = refl; good = refl }
vars_good (x ∷ xs) = record { groups = (x ∷ xs) ∷ []; is = append-nil (x ∷ xs); good = record { front = var_tokens (x ∷ xs); back = []; parts = sym (append-nil (var_tokens (x ∷ xs))); first = var_at x xs; second = refl } }

-- ---- procedures

passing_means : (w : Passing) → passing (passing_kind w) ≡ Some w
unfolding passing
passing_means pa.Rd = refl
passing_means pa.Wr = refl
passing_means pa.Rw = refl

param_at : (y : Param) → p.param (param_tokens y) y
unfolding p.param p.passed
param_at y = last (λ (z : ℕ × (Passing × List ℕ)). record { passing = z.1.0; name = z.1.1; line = z.0 }) (param_tokens y) (y.line, (y.passing, y.name))
    (refl, then_some (sign_at y.line (passing_kind y.passing) ∷ []) (name_token y.name ∷ []) y.passing (record { it = sign_at y.line (passing_kind y.passing); alone = refl; means = passing_means y.passing }) (then_name 0 y.name [] ends))

param_good : (y : Param) → Spells (λ _. p.param) (param_tokens y) y
param_good y = record { from = 0; at = λ room le. param_at y }

name_or_none : (o : Option (List ℕ)) → lang.optional lang.name (optional_name o) o
name_or_none None = refl
name_or_none (Some z) = then_token (name_at 0 z) [] refl ends

ending_at : (line : ℕ) (word : Kind) (L : Lang Token) (o : Option (List ℕ)) → L (sign word ∷ []) (sign word) → p.named_ending L (named_ending_tokens line word o) (line, o)
unfolding p.named_ending
ending_at line word L o h = then_token (sign_at line k.End) (sign word ∷ (optional_name o ++ sign k.Semicolon ∷ [])) refl
    (then_some (sign word ∷ optional_name o) (sign k.Semicolon ∷ []) o (seq (sign word ∷ []) (optional_name o) (sign word) h (name_or_none o)) (then_token (sign k.Semicolon) [] refl ends))

params_at : (n : ℕ) (xs : List Param) → lang.listed p.param (with_commas (map param_tokens xs)) xs → p.params (suc n) (sign k.LeftParen ∷ (with_commas (map param_tokens xs) ++ sign k.RightParen ∷ [])) xs
unfolding p.params
params_at n xs h = then_opening n (sign k.LeftParen) (with_commas (map param_tokens xs) ++ sign k.RightParen ∷ []) refl (seq (with_commas (map param_tokens xs)) (sign k.RightParen ∷ []) xs h (then_token (sign k.RightParen) [] refl ends))

word_at : (line : ℕ) → p.proc_word (sign_at line k.Proc ∷ []) (sign_at line k.Proc)
unfolding p.proc_word
word_at line = inl (record { alone = refl; kind = refl })

abbrev ProcGood : Proc → Type 0
ProcGood y = Spells p.proc (proc_tokens y) y

-- behind the parameters of a procedure
abbrev behind_params : ℕ → Proc → List Param → Tokens → Proc → Type 0
behind_params room y ps = Then (lang.token k.Semicolon) (λ _. Then (s.stmts room) (λ body. Then (p.named_ending p.proc_word)
    (λ end. lang.pure (record { line = y.line; name = y.name; params = ps; body = body; end_name = end.1; end_line = end.0 }))))

proc_at : (n : ℕ) (y : Proc) → s.stmts (suc n) (body_tokens y.body) y.body → p.proc (suc n) (proc_tokens y) y
unfolding p.proc
proc_at n y h =
    let list = spells_listed param_tokens (λ _. p.param) y.params (everything param_good y.params) in
    let rest : Tokens = body_tokens y.body ++ named_ending_tokens y.end_line k.Proc y.end_name in
    let brackets : Tokens = sign k.LeftParen ∷ (with_commas (map param_tokens y.params) ++ sign k.RightParen ∷ []) in
    let whole : brackets ++ sign k.Semicolon ∷ rest ≡ sign k.LeftParen ∷ (with_commas (map param_tokens y.params) ++ sign k.RightParen ∷ sign k.Semicolon ∷ rest) =
    ap (λ (z : Tokens). sign k.LeftParen ∷ z) (append_assoc (with_commas (map param_tokens y.params)) (sign k.RightParen ∷ []) (sign k.Semicolon ∷ rest)) in
    let inside : Then (lang.optional (p.params (suc n))) (λ o. behind_params (suc n) y (unwrap_or o [])) (brackets ++ sign k.Semicolon ∷ rest) y = then_some brackets (sign k.Semicolon ∷ rest) y.params (params_at n y.params (list.at list.from (omega arith))) (then_token (sign k.Semicolon) rest refl
    (seq (body_tokens y.body) (named_ending_tokens y.end_line k.Proc y.end_name) y.body h (last (λ (z : ℕ × Option (List ℕ)). record { line = y.line; name = y.name; params = y.params; body = y.body; end_name = z.1; end_line = z.0 })
    (named_ending_tokens y.end_line k.Proc y.end_name) (y.end_line, y.end_name) (ending_at y.end_line k.Proc p.proc_word y.end_name (word_at 0))))) in
    seq (sign_at y.line k.Proc ∷ []) (name_token y.name ∷ sign k.LeftParen ∷ (with_commas (map param_tokens y.params) ++ sign k.RightParen ∷ sign k.Semicolon ∷ rest)) (sign_at y.line k.Proc) (word_at y.line)
    (then_name 0 y.name (sign k.LeftParen ∷ (with_commas (map param_tokens y.params) ++ sign k.RightParen ∷ sign k.Semicolon ∷ rest)) (subst (λ (z : Tokens). Then (lang.optional (p.params (suc n))) (λ o. behind_params (suc n) y (unwrap_or o [])) z y) whole inside))

proc_good : (room : ℕ) (toks : Tokens) (y : Proc) → p.proc room toks y → ProcGood y
unfolding p.proc
proc_good room toks y h =
    let body = h.second.second.second.second in
    let same : body.value ≡ y.body = ap (λ (z : Proc). z.body) body.second.second.1 in
    let g = subst (λ (z : List Stmt). Spells s.stmts (body_tokens z) z) same (stmts_good room body.front body.value body.first) in
    outer p.proc (proc_tokens y) y g.from (λ n le. proc_at n y (g.at (suc n) (omega (arith, le))))

-- ---- programs

program_at : (room : ℕ) (t : Tree) (v : VarsGood t.vars) (r : ReprGood t.modes) → lang.optional (m.repr room) (repr_tokens t.modes) r.section → s.stmts room (body_tokens t.body) t.body → lang.many (p.proc room) (all_of (map proc_tokens t.procs)) t.procs → p.program room (canonical t) t
unfolding p.program canonical
program_at room t v r one two three =
    let last_part = named_ending_tokens t.end_line k.Program t.end_name in
    let procs = all_of (map proc_tokens t.procs) in
    let body = body_tokens t.body in
    let modes = repr_tokens t.modes in
    let vars = var_tokens t.vars in
    let same : record { name = t.name; vars = joined v.groups; modes = unwrap_or r.section []; body = t.body; procs = t.procs; end_name = t.end_name; end_line = t.end_line } ≡ t =
    (λ i. record { name = t.name; vars = v.is i; modes = r.is i; body = t.body; procs = t.procs; end_name = t.end_name; end_line = t.end_line }) in
    subst (λ (z : Tree). p.program room (canonical t) z) same
    (then_token (sign k.Program) (name_token t.name ∷ sign k.Semicolon ∷ (vars ++ (modes ++ (body ++ (procs ++ last_part))))) refl (then_name 0 t.name (sign k.Semicolon ∷ (vars ++ (modes ++ (body ++ (procs ++ last_part)))))
    (then_token (sign k.Semicolon) (vars ++ (modes ++ (body ++ (procs ++ last_part)))) refl (seq vars (modes ++ (body ++ (procs ++ last_part))) v.groups v.good (seq modes (body ++ (procs ++ last_part)) r.section one
    (seq body (procs ++ last_part) t.body two (seq procs last_part t.procs three (last (λ (z : ℕ × Option (List ℕ)). record { name = t.name; vars = joined v.groups; modes = unwrap_or r.section []; body = t.body; procs = t.procs; end_name = z.1; end_line = z.0 })
    last_part (t.end_line, t.end_name) (ending_at t.end_line k.Program (lang.token k.Program) t.end_name (record { alone = refl; kind = refl }))))))))))

-- The canonical tokens of a tree that some tokens derive, derive it.
pub canonical_derives : (toks : Tokens) (t : Tree) → Derives toks t → Derives (canonical t) t
unfolding p.program
canonical_derives toks t d =
    let room = d.0 in
    let h = d.1 in
    let vars = h.second.second.second in
    let modes = vars.second in
    let body = modes.second in
    let procs = body.second in
    let same = procs.second.second.1 in
    let r = lines_good t.modes (subst (AllOf LineGood) (ap (λ (z : Tree). z.modes) same) (section_lines room modes.front modes.value modes.first)) in
    let b = subst (λ (z : List Stmt). Spells s.stmts (body_tokens z) z) (ap (λ (z : Tree). z.body) same) (stmts_good room body.front body.value body.first) in
    let ps = spells_many proc_tokens p.proc t.procs (subst (AllOf ProcGood) (ap (λ (z : Tree). z.procs) same) (from_many (p.proc room) ProcGood (proc_good room) procs.front procs.value procs.first)) in
    let most = r.good.from + b.from + ps.from in
    (most, program_at most t (vars_good t.vars) r (r.good.at most (omega arith)) (b.at most (omega arith)) (ps.at most (omega arith)))
