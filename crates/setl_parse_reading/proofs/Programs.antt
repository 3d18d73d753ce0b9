-- Reading programs.
use Rattle.std.proofs.Common.{ℕ, Bool, true, false, not, if◌then◌else◌, List, [], Option, unwrap_or, refl}
use Rattle.setl_tree.specs.declared.kind.Kind.{Kind}
use Rattle.setl_tree.specs.declared.kind.Kind.TheVariants as k
use Rattle.setl_tree.specs.declared.tree.Passing.TheVariants as pa
use Rattle.setl_tree.specs.declared.tree.Proc.{Proc}
use Rattle.setl_tree.specs.Tokens.{Token, Tokens}
use Rattle.setl_tree.specs.Lang.{Lang, Then}
use Rattle.setl_tree.specs.Lang as lang
use Rattle.setl_tree.specs.declared.stmt.Stmt.{Stmt}
use Rattle.setl_tree.specs.Statements.{stmts}
use Rattle.setl_tree.specs.Programs as grammar
use Rattle.setl_tree.specs.Programs.{passing, joined, name_behind}
use Rattle.setl_parse_reading.specs.Fronts.{opens_nesting}
use Rattle.setl_parse_reading.specs.code.Reading.{Reader, expect, is, but, begins_as, same_kind}
use Rattle.setl_parse_reading.specs.code.ReadPrograms as p
use Rattle.setl_parse_reading.specs.code.ReadStatements.{begins_stmt}
use Rattle.setl_parse_reading.proofs.EveryKind.{kinds}
use Rattle.setl_parse_reading.proofs.Laws.{Law, Follows, Within, Begins, always, anything, within, within_always, same, law_then, law_map, law_expect, law_one_of, law_choose, law_opening, law_many, law_listed, law_optional, law_lined, law_name, begins_name, begins_token, begins_then, begins_or, begins_one_of, begins_optional, begins_opening, begins_lined, follows_begins, follows_token, follows_then, follows_map, follows_many, follows_optional, follows_within}
use Rattle.setl_parse_reading.proofs.Exact.{Exact, exact_then, exact_map, exact_expect, exact_one_of, exact_choose, exact_opening, exact_many, exact_optional, exact_separated, exact_listed, exact_lined, exact_name}
use Rattle.setl_parse_reading.proofs.Statements.{ends_body, law_stmts, follows_stmts, exact_stmts}
use Rattle.setl_parse_reading.proofs.Modes.{law_names, law_repr, begins_repr, exact_declared, exact_repr}

-- ---- the end of a declaration

semicolon_no_name : Within (is k.Semicolon) (but k.Name)
unfolding kinds same_kind
semicolon_no_name = within refl

law_optional_name : Law p.optional_name (lang.optional lang.name) (is k.Semicolon)
unfolding p.optional_name same_kind
law_optional_name = law_optional law_name (begins_name refl) within_always semicolon_no_name

pub law_named_ending : (is_word : Kind → Bool) (word : Reader Token) (L : Lang Token) → Law word L always → Begins is_word L → Within (is k.Semicolon) (λ kind. not (is_word kind)) → Law (p.named_ending is_word word) (grammar.named_ending L) always
unfolding p.named_ending grammar.named_ending same_kind
law_named_ending is_word word L law begins other = law_then (law_expect k.End)
    (λ t. law_then (law_optional (law_then law (λ _. law_optional_name) (λ _. anything)) (begins_then begins) same other)
    (λ x. law_map (λ _. (t.line, name_behind x)) (law_expect k.Semicolon))
    (λ x. follows_token k.Semicolon refl))
    (λ t. anything)

pub begins_named_ending : (L : Lang Token) → Begins (is k.End) (grammar.named_ending L)
unfolding grammar.named_ending same_kind
begins_named_ending L = begins_then (begins_token k.End refl)

semicolon_no_comma : Within (is k.Semicolon) (but k.Comma)
unfolding kinds same_kind
semicolon_no_comma = within refl

-- ---- variables

law_var : Law p.var grammar.var always
unfolding p.var grammar.var same_kind
law_var = law_then (law_expect k.Var) (λ _. law_then (law_names {stops = is k.Semicolon} semicolon_no_comma) (λ xs. law_map (λ _. xs) (law_expect k.Semicolon)) (λ xs. follows_token k.Semicolon refl)) (λ _. anything)

begins_var : Begins (is k.Var) grammar.var
unfolding grammar.var same_kind
begins_var = begins_then (begins_token k.Var refl)

law_vars : Law p.vars (lang.many grammar.var) (but k.Var)
unfolding p.vars
law_vars = law_many law_var begins_var within_always within_always same

-- ---- parameters

name_no_passing : Within (is k.Name) (λ kind. not (begins_as passing kind))
unfolding kinds same_kind passing
name_no_passing = within refl

begins_name_is : Begins (is k.Name) lang.name
unfolding same_kind
begins_name_is = begins_name refl

law_passed : Law p.passed grammar.passed always
unfolding p.passed grammar.passed passing
law_passed = law_then (law_optional (law_one_of passing refl) (begins_one_of passing) within_always same) (λ w. law_map (λ x. (unwrap_or w pa.Rd, x)) law_name) (λ w. follows_map (follows_begins begins_name_is name_no_passing))

-- a passing word or a name
abbrev starts_param : Kind → Bool
starts_param kind = if is k.Name kind then true else begins_as passing kind

passing_starts : Within (begins_as passing) starts_param
unfolding kinds same_kind passing
passing_starts = within refl

begins_passed : Begins starts_param grammar.passed
unfolding grammar.passed same_kind
begins_passed = begins_optional (begins_one_of passing) passing_starts (λ w. begins_then (begins_name refl))

law_param : Law p.param grammar.param always
unfolding p.param grammar.param
law_param = law_map (λ x. record { passing = x.1.0; name = x.1.1; line = x.0 }) (law_lined law_passed begins_passed)

begins_param : Begins starts_param grammar.param
unfolding grammar.param
begins_param = begins_then (begins_lined begins_passed)

paren_no_comma : Within (is k.RightParen) (but k.Comma)
unfolding kinds same_kind
paren_no_comma = within refl

param_no_paren : Within starts_param (but k.RightParen)
unfolding kinds same_kind passing
param_no_paren = within refl

law_params : (room : ℕ) → Law (p.params room) (grammar.params room) always
unfolding p.params grammar.params same_kind
law_params room = law_opening room k.LeftParen (λ _ _ _. law_then (law_listed k.RightParen law_param begins_param within_always within_always paren_no_comma param_no_paren) (λ xs. law_map (λ _. xs) (law_expect k.RightParen)) (λ xs. follows_token k.RightParen refl))

begins_params : (room : ℕ) → Begins (is k.LeftParen) (grammar.params room)
unfolding grammar.params same_kind
begins_params room = begins_then (begins_opening room k.LeftParen refl)

-- ---- procedures

law_proc_word : Law p.proc_word grammar.proc_word always
unfolding p.proc_word grammar.proc_word same_kind
law_proc_word = law_choose (is k.Proc) (law_expect k.Proc) (law_expect k.Procedure) (follows_begins (begins_token k.Proc refl) same) (follows_begins (begins_token k.Procedure refl) same)

begins_proc_word : Begins p.begins_proc grammar.proc_word
unfolding grammar.proc_word p.begins_proc
begins_proc_word = begins_or (begins_token k.Proc refl) (begins_token k.Procedure refl)

semicolon_no_proc : Within (is k.Semicolon) (λ kind. not (p.begins_proc kind))
unfolding kinds same_kind p.begins_proc
semicolon_no_proc = within refl

semicolon_no_params : Within (is k.Semicolon) (but k.LeftParen)
unfolding kinds same_kind
semicolon_no_params = within refl

end_ends_body : Within (is k.End) ends_body
unfolding kinds same_kind begins_stmt
end_ends_body = within refl

law_proc : (room : ℕ) → Law (p.proc room) (grammar.proc room) always
unfolding p.proc grammar.proc same_kind
law_proc room = law_then law_proc_word (λ t. law_then law_name (λ x. law_then (law_optional (law_params room) (begins_params room) within_always semicolon_no_params)
    (λ ps. law_then (law_expect k.Semicolon) (λ _. law_then (law_stmts room)
    (λ body. law_map (λ last. record { line = t.line; name = x; params = unwrap_or ps []; body = body; end_name = last.1; end_line = last.0 }) (law_named_ending p.begins_proc p.proc_word grammar.proc_word law_proc_word begins_proc_word semicolon_no_proc))
    (λ body. follows_begins (begins_then (begins_named_ending grammar.proc_word)) end_ends_body)) (λ _. anything))
    (λ ps. follows_token k.Semicolon refl)) (λ x. anything)) (λ t. anything)

begins_a_proc : (room : ℕ) → Begins p.begins_proc (grammar.proc room)
unfolding grammar.proc
begins_a_proc room = begins_then begins_proc_word

end_no_proc : Within (is k.End) (λ kind. not (p.begins_proc kind))
unfolding kinds same_kind p.begins_proc
end_no_proc = within refl

law_procs : (room : ℕ) → Law (p.procs room) (lang.many (grammar.proc room)) (is k.End)
unfolding p.procs
law_procs room = law_many (law_proc room) (begins_a_proc room) within_always within_always end_no_proc

-- ---- programs

semicolon_no_program : Within (is k.Semicolon) (but k.Program)
unfolding kinds same_kind
semicolon_no_program = within refl

law_program_end : Law p.program_end (grammar.named_ending (lang.token k.Program)) always
unfolding p.program_end same_kind
law_program_end = law_named_ending (is k.Program) (expect k.Program) (lang.token k.Program) (law_expect k.Program) (begins_token k.Program refl) semicolon_no_program

-- what stands in front of the procedures and the end
abbrev last_part : Kind → Bool
last_part kind = if is k.End kind then true else p.begins_proc kind

end_last : Within (is k.End) last_part
unfolding kinds same_kind p.begins_proc
end_last = within refl

proc_last : Within p.begins_proc last_part
unfolding kinds same_kind p.begins_proc
proc_last = within refl

last_ends_body : Within last_part ends_body
unfolding kinds same_kind p.begins_proc begins_stmt
last_ends_body = within refl

-- what stands in front of the statements
abbrev main_part : Kind → Bool
main_part kind = if begins_stmt kind then true else last_part kind

stmt_main : Within begins_stmt main_part
unfolding kinds same_kind p.begins_proc begins_stmt
stmt_main = within refl

last_main : Within last_part main_part
unfolding kinds same_kind p.begins_proc begins_stmt
last_main = within refl

main_no_repr : Within main_part (but k.Repr)
unfolding kinds same_kind p.begins_proc begins_stmt
main_no_repr = within refl

main_no_var : Within main_part (but k.Var)
unfolding kinds same_kind p.begins_proc begins_stmt
main_no_var = within refl

repr_no_var : Within (is k.Repr) (but k.Var)
unfolding kinds same_kind
repr_no_var = within refl

-- the parts of a program behind its name, from the last on
follows_end : {A : Type 0} {M : ℕ × Option (List ℕ) → Tokens → A → Type 0} {stops : Kind → Bool} → Follows (Then (grammar.named_ending (lang.token k.Program)) M) stops (is k.End)
follows_end = follows_begins (begins_then (begins_named_ending (lang.token k.Program))) same

follows_procs : (room : ℕ) {A : Type 0} {M : List Proc → Tokens → A → Type 0} {stops : Kind → Bool} → ((ps : List Proc) → Follows (M ps) stops (is k.End)) → Follows (Then (lang.many (grammar.proc room)) M) stops last_part
follows_procs room h = follows_then (follows_many (begins_a_proc room) proc_last end_last) h

follows_body : (room : ℕ) {A : Type 0} {M : List Stmt → Tokens → A → Type 0} {stops : Kind → Bool} → ((body : List Stmt) → Follows (M body) stops last_part) → Follows (Then (stmts room) M) stops main_part
follows_body room h = follows_then (follows_stmts room stmt_main last_main) h

pub law_program : (room : ℕ) → Law (p.program room) (grammar.program room) always
unfolding p.program grammar.program same_kind
law_program room = law_then (law_expect k.Program) (λ _. law_then law_name (λ x. law_then (law_expect k.Semicolon) (λ _.
    law_then law_vars (λ vs. law_then (law_optional (law_repr room) (begins_repr room) within_always main_no_repr) (λ modes. law_then (law_stmts room) (λ body. law_then (law_procs room)
    (λ ps. law_map (λ last. record { name = x; vars = joined vs; modes = unwrap_or modes []; body = body; procs = ps; end_name = last.1; end_line = last.0 }) law_program_end)
    (λ ps. follows_end)) (λ body. follows_within (follows_procs room (λ ps. follows_end)) last_ends_body)) (λ modes. follows_body room (λ body. follows_procs room (λ ps. follows_end))))
    (λ vs. follows_then (follows_optional (begins_repr room) repr_no_var main_no_var) (λ modes. follows_body room (λ body. follows_procs room (λ ps. follows_end)))))
    (λ _. anything)) (λ x. anything)) (λ _. anything)

-- ---- where reading stops

exact_named_ending : {always : Bool} {room : ℕ} (is_word : Kind → Bool) (word : Reader Token) (L : Lang Token) → Exact false room word L → Exact always room (p.named_ending is_word word) (grammar.named_ending L)
unfolding p.named_ending grammar.named_ending p.optional_name opens_nesting
exact_named_ending is_word word L exact = exact_then (exact_expect k.End refl)
    (λ t. exact_then (exact_optional is_word (exact_then exact (λ _. exact_optional (is k.Name) exact_name))) (λ x. exact_map (λ _. (t.line, name_behind x)) (exact_expect k.Semicolon refl)))

exact_var : {always : Bool} {room : ℕ} → Exact always room p.var grammar.var
unfolding p.var grammar.var opens_nesting
exact_var = exact_then (exact_expect k.Var refl) (λ _. exact_then (exact_separated exact_declared) (λ xs. exact_map (λ _. xs) (exact_expect k.Semicolon refl)))

exact_vars : {always : Bool} {room : ℕ} → Exact always room p.vars (lang.many grammar.var)
unfolding p.vars
exact_vars = exact_many (is k.Var) exact_var begins_var

exact_passed : {always : Bool} {room : ℕ} → Exact always room p.passed grammar.passed
unfolding p.passed grammar.passed passing opens_nesting kinds
exact_passed = exact_then (exact_optional (begins_as passing) (exact_one_of passing k.Rd pa.Rd refl refl (within refl))) (λ w. exact_map (λ x. (unwrap_or w pa.Rd, x)) exact_name)

exact_param : {always : Bool} {room : ℕ} → Exact always room p.param grammar.param
unfolding p.param grammar.param
exact_param = exact_map (λ x. record { passing = x.1.0; name = x.1.1; line = x.0 }) (exact_lined exact_passed begins_passed)

exact_params : (room : ℕ) → Exact false room (p.params room) (grammar.params room)
unfolding p.params grammar.params opens_nesting
exact_params room = exact_opening room k.LeftParen refl (λ _ _ _. exact_then (exact_listed k.RightParen exact_param) (λ xs. exact_map (λ _. xs) (exact_expect k.RightParen refl)))

exact_proc_word : {always : Bool} {room : ℕ} → Exact always room p.proc_word grammar.proc_word
unfolding p.proc_word grammar.proc_word opens_nesting
exact_proc_word = exact_choose (is k.Proc) (exact_expect k.Proc refl) (exact_expect k.Procedure refl)

exact_proc : {always : Bool} (room : ℕ) → Exact always room (p.proc room) (grammar.proc room)
unfolding p.proc grammar.proc opens_nesting
exact_proc room = exact_then exact_proc_word (λ t. exact_then exact_name (λ x. exact_then (exact_optional (is k.LeftParen) (exact_params room)) (λ ps. exact_then (exact_expect k.Semicolon refl) (λ _. exact_then (exact_stmts room)
    (λ body. exact_map (λ last. record { line = t.line; name = x; params = unwrap_or ps []; body = body; end_name = last.1; end_line = last.0 }) (exact_named_ending p.begins_proc p.proc_word grammar.proc_word exact_proc_word))))))

exact_procs : {always : Bool} (room : ℕ) → Exact always room (p.procs room) (lang.many (grammar.proc room))
unfolding p.procs
exact_procs room = exact_many p.begins_proc (exact_proc room) (begins_a_proc room)

exact_program_end : {always : Bool} {room : ℕ} → Exact always room p.program_end (grammar.named_ending (lang.token k.Program))
unfolding p.program_end opens_nesting
exact_program_end = exact_named_ending (is k.Program) (expect k.Program) (lang.token k.Program) (exact_expect k.Program refl)

pub exact_program : (room : ℕ) → Exact true room (p.program room) (grammar.program room)
unfolding p.program grammar.program opens_nesting
exact_program room = exact_then (exact_expect k.Program refl) (λ _. exact_then exact_name (λ x. exact_then (exact_expect k.Semicolon refl) (λ _. exact_then exact_vars (λ vs. exact_then (exact_optional (is k.Repr) (exact_repr room))
    (λ modes. exact_then (exact_stmts room) (λ body. exact_then (exact_procs room)
    (λ ps. exact_map (λ last. record { name = x; vars = joined vs; modes = unwrap_or modes []; body = body; procs = ps; end_name = last.1; end_line = last.0 }) exact_program_end)))))))
