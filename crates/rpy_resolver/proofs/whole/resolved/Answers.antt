use Rattle.std.proofs.Common.{refl, ap, ◌∙◌}
use Rattle.resolver_laws.specs.Listing.{named_from}
use Rattle.resolver_laws.proofs.Listed.{resolved_same}
use Rattle.rpy_resolver.proofs.whole.resolved.Goals as goal

pub returns-clause-meant : goal.returns-clause-meant
returns-clause-meant c =
    resolved_same c.args.program.now (record { functions = c.in_ok-functions_of.field-0; classes = c.in_ok-classes_of.field-0; sites = c.in_ok-copy_sites.field-0; entry = c.args.program.now.entry })
    c.in_ok-functions_of.ensures.added
    (c.in_ok-classes_of.ensures ∙ ap (λ labels. named_from c.args.program.now labels 0 c.args.program.now.classes) (c.as_slice-2.ensures ∙ c.in_ok-labels.ensures.classes))
    (c.in_ok-copy_sites.ensures ∙ c.as_slice-3.ensures)
    refl

pub returns-clause-made : goal.returns-clause-made
returns-clause-made c = record {
  functions = c.in_ok-functions_of.ensures.added;
  nodes = c.in_ok-functions_of.ensures.from;
  sites = c.in_ok-copy_sites.ensures ∙ c.as_slice-3.ensures;
}
