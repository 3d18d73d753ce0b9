-- The constructs that are open at a place.
use Rattle.std.specs.Prelude.{ℕ, ◌-◌, Bool, false, nat_lt, if◌then◌else◌, List, [], ◌∷◌, ◌++◌, length, take, fold, insert}
use Rattle.setl_tree.specs.declared.kind.Kind.{Kind}
use Rattle.setl_tree.specs.declared.kind.Kind.TheVariants as k
use Rattle.setl_token.specs.Text.{Lexed, token_text}
use Rattle.setl_token.specs.declared.Token.{Token as Lexeme}
use Rattle.setl_parse_reading.specs.code.Reading.{same_kind}
use Rattle.setl_parse_cursor.specs.Plain.{kind_of}
use Rattle.setl_explain_open.specs.Effects.{effect_behind}
use Rattle.setl_explain_open.specs.declared.effect.Effect.{Effect}
use Rattle.setl_explain_open.specs.declared.effect.Effect.TheVariants as does
use Rattle.setl_explain_open.specs.declared.reached.Opening.{Opening}

-- open constructs, the outermost first, and what a token does to them
abbrev pub noted : List Opening → Effect → Opening → List Opening
noted stack does.Opens opening = stack ++ opening ∷ []
noted stack does.OpensAround opening = insert stack (length stack - 1) opening
noted stack does.Closes opening = take (length stack - 1) stack
noted stack does.None opening = stack

-- the constructs that are open behind some tokens, and whether the last of these is `end`
pub record Reached : Type 0 where
  pub stack : List Opening
  pub ended : Bool

abbrev pub at_start : Reached
at_start = record { stack = []; ended = false }

-- what an `end` that stands last closes, it closes at the token behind it
abbrev pub ended_at : Reached → List Opening
ended_at r = if r.ended then take (length r.stack - 1) r.stack else r.stack

-- one token further, of a kind and on a line
abbrev pub behind : Reached → Kind → ℕ → Reached
behind r kind line = record { stack = noted (ended_at r) (effect_behind r.ended kind) (record { kind = kind; line = line }); ended = same_kind kind k.End }

-- one token further, if it begins before a place
abbrev pub behind_before : List ℕ → ℕ → Reached → Lexeme → Reached
behind_before source at r t = if nat_lt t.from at then behind r (kind_of t.kind (token_text source t)) t.line else r

-- the constructs that are open behind the tokens before a place
abbrev pub open_at : Lexed → ℕ → List Opening
open_at l at = (fold (behind_before l.source at) at_start l.tokens).stack
