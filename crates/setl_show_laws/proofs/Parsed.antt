-- The canonical text of a tree, parsed.
use Rattle.std.proofs.Common.{◌≡◌, ◌≢◌, ℕ, Result, Ok, Err, IfOk, IfErr, sym, ◌∙◌}
use Rattle.setl_tree.specs.declared.tree.Tree.{Tree}
use Rattle.setl_tree.specs.Programs as grammar
use Rattle.setl_parse_reading.specs.declared.fault.Fault.{Fault}
use Rattle.setl_parse_reading.specs.declared.fault.Fault.TheVariants as left
use Rattle.setl_parse_reading.specs.Fronts.{FaultOf}
use Rattle.setl_token.specs.Text.{Lexed}
use Rattle.setl_parse_cursor.specs.Plain.{plain_tokens}
use Rattle.setl_parse.specs.declared.fault.ParseFault.{ParseFault}
use Rattle.setl_parse.specs.declared.fault.ParseFault.TheVariants as fault
use Rattle.setl_parse.specs.Places.{IsFaultOf, fault_of}
use Rattle.setl_show_laws.specs.Lines.{SameTree}
use Rattle.setl_show_laws.specs.Claims.{DerivesSame, IsParsedAs}

-- tokens that derive a tree have no fault of syntax
no_syntax : (shown : Lexed) (tree : Tree) (at : ℕ) → DerivesSame (plain_tokens shown) tree → (e : Fault) → FaultOf 200 (plain_tokens shown) e → fault.Syntax at ≡ fault_of shown e → ⊥
no_syntax shown tree at derives left.Memory h is = h
no_syntax shown tree at derives (left.Syntax count) h is = h.0.none derives.it derives.derived
no_syntax shown tree at derives (left.Nesting count) h is = absurd cc

-- what the parser ensures of its outcome
pub parsed : (shown : Lexed) (tree : Tree) (result : Result Tree ParseFault)
    → DerivesSame (plain_tokens shown) tree
    → ((other : Tree) → grammar.program 200 (plain_tokens shown) other → SameTree tree other)
    → IfOk result (λ other. grammar.program 200 (plain_tokens shown) other)
    → IfErr result (λ e. e ≢ fault.NoMemory → IsFaultOf shown e)
    → IsParsedAs result tree
parsed shown tree (Ok other) derives same found told = same other found
parsed shown tree (Err fault.NoMemory) derives same found told = tt
parsed shown tree (Err (fault.Nesting at)) derives same found told = tt
parsed shown tree (Err (fault.Syntax at)) derives same found told =
    let why = told (λ e. absurd (cc)) in
    no_syntax shown tree at derives why.0 why.1 why.2
