use Rattle.std.proofs.Common.{◌≡◌, ◌+◌, ◌*◌, drop}
use Rattle.ann_element.specs.Size.{size, sizes}
use Rattle.rtyper_layout.specs.Sites.{sites_in}
use Rattle.rtyper_layout.proofs.shapes.+sites.Given as goal

abbrev pub invariant-push_sites_in-loop-element : goal.invariant-push_sites_in-loop-element
invariant-push_sites_in-loop-element l = sites_in l.of_dicts l.sites (drop l.element-index l.elements) ≡ sites_in l.of_dicts l.initial.sites l.elements

abbrev pub decreases-push_sites : goal.decreases-push_sites
decreases-push_sites l = 2 * size l.element.now

abbrev pub decreases-push_sites_in : goal.decreases-push_sites_in
decreases-push_sites_in l = 2 * sizes l.elements.now + 1
