-- The tokens of a source, or its fault, and nothing else.
use Rattle.std.proofs.Common.{◌≡◌, List, [], Ok, Err, ◌⊎◌, inl, inr, refl, subst}
use Rattle.rpy_token.specs.declared.fault.TokenFault.{TokenFault}
use Rattle.rpy_token.specs.declared.fault.TokenFault.TheVariants as fault
use Rattle.rpy_token.specs.declared.token.Token.{Token}
use Rattle.rpy_token.specs.Bytes.{Bytes}
use Rattle.rpy_token.specs.Fault.{Outcome, Fails}
use Rattle.rpy_token.specs.Scan.{token_list}
use Rattle.rpy_token.specs.Relation.{AtLine, start_of, IsTokens, HasFault, IsCause}
use Rattle.rpy_token.specs.Order.{InOrder}
use Rattle.rpy_token.proofs.Ordered.{tokens_order}
use Rattle.rpy_token.proofs.Runs.{list_is}
use Rattle.rpy_token.proofs.Totality.{ends_somehow, is_read}

at_out : (source : Bytes) (out : Outcome (List Token)) → token_list source ≡ out → AtLine (start_of source) [] [] out
at_out source out e = subst (λ (o : Outcome (List Token)). AtLine (start_of source) [] [] o) e (is_read source)

ok_is : (a b : List Token) (o : Outcome (List Token)) → o ≡ Ok a → o ≡ Ok b → a ≡ b
ok_is a b o e f = cc

err_is : (a b : TokenFault) (o : Outcome (List Token)) → o ≡ Err a → o ≡ Err b → a ≡ b
err_is a b o e f = cc

not_both : (a : List Token) (b : TokenFault) (o : Outcome (List Token)) → o ≡ Ok a → o ≡ Err b → ⊥
not_both a b o e f = cc

pub tokens_found : (source : Bytes) (list : List Token) → token_list source ≡ Ok list → IsTokens source list
tokens_found source list e = at_out source (Ok list) e

pub fault_found : (source : Bytes) (f : TokenFault) → token_list source ≡ Err f → HasFault source f
fault_found source f e = at_out source (Err f) e

pub tokens_ordered : (source : Bytes) (list : List Token) → token_list source ≡ Ok list → InOrder source 0 list
tokens_ordered source list e = tokens_order source list (tokens_found source list e)

pub tokens_only : (source : Bytes) (list other : List Token) → token_list source ≡ Ok list → IsTokens source other → list ≡ other
tokens_only source list other e d = ok_is list other (token_list source) e (list_is source (Ok other) d)

pub no_fault : (source : Bytes) (list : List Token) (f : TokenFault) → token_list source ≡ Ok list → HasFault source f → ⊥
no_fault source list f e d = not_both list f (token_list source) e (list_is source (Err f) d)

pub fault_cause : (source : Bytes) (f : TokenFault) → Fails f (token_list source) → IsCause source f
fault_cause source fault.NoMem e = tt
fault_cause source (fault.BadByte at) e = at_out source (Err (fault.BadByte at)) e
fault_cause source (fault.BadIndent at) e = at_out source (Err (fault.BadIndent at)) e
fault_cause source (fault.OpenString at) e = at_out source (Err (fault.OpenString at)) e
fault_cause source (fault.BadNumber at) e = at_out source (Err (fault.BadNumber at)) e
fault_cause source (fault.Limit kind at) e = at_out source (Err (fault.Limit kind at)) e

-- where a list stands, only memory can fail
pub only_memory : (source : Bytes) (list : List Token) (f : TokenFault) → Fails f (token_list source) → IsTokens source list → f ≡ fault.NoMem
only_memory source list fault.NoMem e d = refl
only_memory source list (fault.BadByte at) e d = absurd (not_both list (fault.BadByte at) (token_list source) (list_is source (Ok list) d) e)
only_memory source list (fault.BadIndent at) e d = absurd (not_both list (fault.BadIndent at) (token_list source) (list_is source (Ok list) d) e)
only_memory source list (fault.OpenString at) e d = absurd (not_both list (fault.OpenString at) (token_list source) (list_is source (Ok list) d) e)
only_memory source list (fault.BadNumber at) e d = absurd (not_both list (fault.BadNumber at) (token_list source) (list_is source (Ok list) d) e)
only_memory source list (fault.Limit kind at) e d = absurd (not_both list (fault.Limit kind at) (token_list source) (list_is source (Ok list) d) e)

-- where a fault stands, no other does
pub only_fault : (source : Bytes) (f g : TokenFault) → Fails f (token_list source) → HasFault source g → (f ≡ g) ⊎ (f ≡ fault.NoMem)
only_fault source fault.NoMem g e d = inr refl
only_fault source (fault.BadByte at) g e d = inl (err_is (fault.BadByte at) g (token_list source) e (list_is source (Err g) d))
only_fault source (fault.BadIndent at) g e d = inl (err_is (fault.BadIndent at) g (token_list source) e (list_is source (Err g) d))
only_fault source (fault.OpenString at) g e d = inl (err_is (fault.OpenString at) g (token_list source) e (list_is source (Err g) d))
only_fault source (fault.BadNumber at) g e d = inl (err_is (fault.BadNumber at) g (token_list source) e (list_is source (Err g) d))
only_fault source (fault.Limit kind at) g e d = inl (err_is (fault.Limit kind at) g (token_list source) e (list_is source (Err g) d))

-- ---- laws of the relation

pub one_list : (source : Bytes) (a b : List Token) → IsTokens source a → IsTokens source b → a ≡ b
one_list source a b d e = ok_is a b (token_list source) (list_is source (Ok a) d) (list_is source (Ok b) e)

pub one_fault : (source : Bytes) (f g : TokenFault) → HasFault source f → HasFault source g → f ≡ g
one_fault source f g d e = err_is f g (token_list source) (list_is source (Err f) d) (list_is source (Err g) e)

pub never_both : (source : Bytes) (list : List Token) (f : TokenFault) → IsTokens source list → HasFault source f → ⊥
never_both source list f d e = not_both list f (token_list source) (list_is source (Ok list) d) (list_is source (Err f) e)

some_way : (source : Bytes) (out : Outcome (List Token)) → AtLine (start_of source) [] [] out → ((list : List Token) × IsTokens source list) ⊎ ((f : TokenFault) × HasFault source f)
some_way source (Ok list) d = inl (list, d)
some_way source (Err f) d = inr (f, d)

pub always_one : (source : Bytes) → ((list : List Token) × IsTokens source list) ⊎ ((f : TokenFault) × HasFault source f)
always_one source = let d = ends_somehow source in some_way source d.0 d.1
