-- What nothing catches leaves its graph.
use Rattle.std.proofs.Common.{◌≡◌, ℕ, false, List, [], ◌∷◌, ◌++◌, Some, None, refl, ap, ◌∙◌}
use Rattle.ll_live.specs.Live.{among}
use Rattle.rpy_tree.specs.Value.{Ref}
use Rattle.flow_graph.specs.declared.graph.Exit.TheVariants as exit
use Rattle.flow_graph.specs.declared.graph.Link.{Link}
use Rattle.flow_meaning.specs.Machine as flow
use Rattle.flow_meaning.specs.Machine.{Bound, bind, look, block_in, passed, jump, begins}
use Rattle.run_laws.specs.Points.{Setting, names_of}
use Rattle.block_laws.specs.Operations.{IsUncaught, AtOnce, ByBlock}
use Rattle.block_laws.specs.Escaping.{RaisesAgain, ExceptionsEscape}
use Rattle.block_laws.proofs.Variables.{look_new}

module _ (s : Setting) (f : ℕ) (names : List ℕ) where
  again : (v : ℕ) (by without : Link) → among v names ≡ false → RaisesAgain s f v by → IsUncaught s f names [] (exit.OnRaise v [] (Some by) without)
  again v by without new is r w env named =
      let inner : List Bound = bind is.input (Some (Ref r)) ∷ [] in
      let fresh : among v (names_of env) ≡ false = ap (among v) named ∙ new in
      let given : look (env ++ bind v (Some (Ref r)) ∷ []) v ≡ Some (Ref r) = look_new env v (Some (Ref r)) fresh in
      let whole = env ++ bind v (Some (Ref r)) ∷ [] in
      let taken : passed whole is.block.inputs by.args ≡ inner =
      ap (λ is. passed whole is by.args) is.takes ∙ ap (passed whole (is.input ∷ [])) is.passes ∙ ap (λ o. bind is.input o ∷ []) given in
      ByBlock is.input inner (λ instead calls.
      ap (begins f calls w instead whole by) is.is
      ∙ ap (λ env. flow.Goes (flow.At f is.block.ops is.block.exit env instead calls w)) taken
      ∙ ap (λ ops. flow.Goes (flow.At f ops is.block.exit inner instead calls w)) is.does
      ∙ ap (λ e. flow.Goes (flow.At f [] e inner instead calls w)) is.raises)
      (look_new [] is.input (Some (Ref r)) refl)

pub exceptions_escape : ExceptionsEscape
exceptions_escape s f names (o ∷ ops) e lets r w env named = AtOnce (λ instead calls. refl)
exceptions_escape s f names [] (exit.OnRaise v [] None without) lets r w env named = AtOnce (λ instead calls. refl)
exceptions_escape s f names [] (exit.OnRaise v [] (Some by) without) lets r w env named = again s f names v by without lets.0 lets.1 r w env named
exceptions_escape s f names [] (exit.OnRaise v (hand ∷ hands) by without) lets r w env named = absurd lets
exceptions_escape s f names [] (exit.Goto link) lets r w env named = AtOnce (λ instead calls. refl)
exceptions_escape s f names [] (exit.If v there elsewhere) lets r w env named = AtOnce (λ instead calls. refl)
exceptions_escape s f names [] (exit.Return v) lets r w env named = AtOnce (λ instead calls. refl)
exceptions_escape s f names [] (exit.Raise v) lets r w env named = AtOnce (λ instead calls. refl)
