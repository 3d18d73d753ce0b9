-- Where tokens have no fault.
use Rattle.std.proofs.Common.{◌≡◌, ℕ, List, subst}
use Rattle.setl_token.specs.Lex.{Spelled}
use Rattle.setl_token.specs.Text.{Lexed}
use Rattle.setl_token.specs.declared.Token.{Token}
use Rattle.setl_parse.specs.Places.{IsFaultOf, FaultIsUnique}
use Rattle.setl_parse.specs.declared.fault.ParseFault.{ParseFault}
use Rattle.setl_explain_next.specs.Next.{HasNoFaultAt, StandsAt, GoesOnAt}

-- tokens whose fault stands elsewhere have none there
pub elsewhere : (l : Lexed) (e : ParseFault) (place : ℕ) → FaultIsUnique → IsFaultOf l e → (StandsAt place e → ⊥) → HasNoFaultAt l place
elsewhere l e place unique fault away stop other at = away (subst (StandsAt place) (unique l stop e other fault) at)

-- tokens whose fault stands there
pub there : (l : Lexed) (e : ParseFault) (place : ℕ) → IsFaultOf l e → StandsAt place e → HasNoFaultAt l place → ⊥
there l e place fault at none = none e fault at

-- a source goes on where its tokens have no fault
pub goes_on : (l : Lexed) (place : ℕ) → Spelled l.source l.tokens → HasNoFaultAt l place → GoesOnAt l.source place
goes_on l place spelled none = record { tokens = l.tokens; spelled = spelled; goes_on = none }

-- and only there
pub ends : (l : Lexed) (place : ℕ) → Spelled l.source l.tokens → ((source : List ℕ) (ts us : List Token) → Spelled source ts → Spelled source us → ts ≡ us) → (HasNoFaultAt l place → ⊥) → GoesOnAt l.source place → ⊥
ends l place spelled one fails g = fails (subst (λ ts. HasNoFaultAt (record { source = l.source; tokens = ts }) place) (one l.source g.tokens l.tokens g.spelled spelled) g.goes_on)
