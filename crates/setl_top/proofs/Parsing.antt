-- Sources that no tree is parsed of.
use Rattle.std.proofs.Common.{◌≡◌, ◌≤◌, ◌^◌, length, subst, sym}
use Rattle.setl_token.specs.Lex.{Spelled}
use Rattle.setl_token.specs.Text.{Lexed}
use Rattle.setl_parse.specs.Places.{IsFaultOf}
use Rattle.setl_parse.specs.declared.fault.ParseFault.{ParseFault}
use Rattle.setl_parse.specs.declared.fault.ParseFault.TheVariants as fault
use Rattle.setl_top.specs.Accepted.{IsUnparsed}

-- the fault of a parse that isn't want of memory
pub unparsed : (l : Lexed) (e stop : ParseFault) → e ≡ stop → (stop ≡ fault.NoMemory → ⊥) → length l.source ≤ 2 ^ 24 → Spelled l.source l.tokens → ((e ≡ fault.NoMemory → ⊥) → IsFaultOf l e) → IsUnparsed l.source stop
unparsed l e stop is other short spelled told = record {
  short = short;
  tokens = l.tokens;
  spelled = spelled;
  fault = subst (IsFaultOf l) is (told (subst (λ f. f ≡ fault.NoMemory → ⊥) (sym is) other));
}
