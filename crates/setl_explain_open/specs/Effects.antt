-- What a token does to the constructs that are open.
use Rattle.std.specs.Prelude.{Bool, true, false, ◌&&◌, if◌then◌else◌}
use Rattle.setl_tree.specs.declared.kind.Kind.{Kind}
use Rattle.setl_tree.specs.declared.kind.Kind.TheVariants as k
use Rattle.setl_explain_open.specs.declared.effect.Effect.{Effect}
use Rattle.setl_explain_open.specs.declared.effect.Effect.TheVariants as does

-- Brackets, `program`, `proc`, `repr` and `if` open a construct. The `for` or `while` behind the bracket of a loop's head
-- opens the loop around that bracket. Brackets close the innermost. (So does `end`, but only behind it.)
abbrev pub effect_of : Kind → Effect
effect_of k.LeftParen = does.Opens
effect_of k.LeftBrace = does.Opens
effect_of k.LeftBracket = does.Opens
effect_of k.Program = does.Opens
effect_of k.Proc = does.Opens
effect_of k.Procedure = does.Opens
effect_of k.Repr = does.Opens
effect_of k.If = does.Opens
effect_of k.For = does.OpensAround
effect_of k.While = does.OpensAround
effect_of k.RightParen = does.Closes
effect_of k.RightBrace = does.Closes
effect_of k.RightBracket = does.Closes
effect_of _ = does.None

-- the words that may stand behind `end`
abbrev pub names_end : Kind → Bool
names_end k.Program = true
names_end k.Proc = true
names_end k.Procedure = true
names_end k.Repr = true
names_end k.If = true
names_end k.For = true
names_end k.While = true
names_end _ = false

-- what a token does, behind `end` or not
abbrev pub effect_behind : Bool → Kind → Effect
effect_behind ended kind = if ended && names_end kind then does.None else effect_of kind
