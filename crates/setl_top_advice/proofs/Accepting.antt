-- What is known of a source in which advice stands.
use Rattle.std.proofs.Common.{◌≡◌, ◌≤◌, ◌^◌, ℕ, List, length, None, subst, sym}
use Rattle.setl_token.specs.Lex.{Spelled}
use Rattle.setl_token.specs.Text.{Lexed}
use Rattle.setl_tree.specs.Programs as grammar
use Rattle.setl_tree.specs.declared.tree.Tree.{Tree}
use Rattle.setl_parse_cursor.specs.Plain.{plain_tokens}
use Rattle.setl_modes_declarations.specs.Declares as declarations
use Rattle.setl_names.specs.Breaks as names
use Rattle.setl_names.specs.Breaks.{first_break}
use Rattle.setl_program.specs.ProgramOf.{program_of}
use Rattle.setl_program_laws.specs.Claims.{IsAccepted}
use Rattle.setl_advise_checked.specs.Checked.{RunsFit}
use Rattle.setl_top_rules.specs.Rules.{all_breaks}
use Rattle.setl_top_rules.specs.RulesLaws.{none_before}
use Rattle.setl_top_advice.specs.Put.{IsFitting}

-- a tree that was derived and breaks no rule is accepted, and so its runs fit
fitting_of : (l : Lexed) (tree : Tree) → Spelled l.source l.tokens → grammar.program 200 (plain_tokens l) tree → first_break (all_breaks tree) ≡ None → (IsAccepted tree → RunsFit (program_of tree)) → length l.source ≤ 2 ^ 24 → IsFitting l.source
fitting_of l tree spelled derived sound fits short = record {
  short = short;
  tokens = l.tokens;
  spelled = spelled;
  tree = tree;
  derived = derived;
  sound = sound;
  fits = fits (record { tokens = plain_tokens l; derived = (200, derived); sound = none_before (names.breaks tree) (declarations.breaks tree) sound });
}

-- the source of the tokens is this one
pub fitting : (l : Lexed) (source : List ℕ) (tree : Tree) → l.source ≡ source → Spelled source l.tokens → grammar.program 200 (plain_tokens l) tree → first_break (all_breaks tree) ≡ None → (IsAccepted tree → RunsFit (program_of tree)) → length source ≤ 2 ^ 24 → IsFitting source
fitting l source tree is spelled derived sound fits short =
    subst IsFitting is (fitting_of l tree (subst (λ (x : List ℕ). Spelled x l.tokens) (sym is) spelled) derived sound fits (subst (λ (x : List ℕ). length x ≤ 2 ^ 24) (sym is) short))
