use Rattle.std.proofs.Common.{◌≡◌, [], refl}
use Rattle.resolver_names.proofs.Telling.{told}
use Rattle.resolver_names.proofs.index.Index.new.Goals as goal

pub returns : goal.returns
returns c =
    let s = rw (c.as_slice-2.ensures, c.new-sites.ensures) at c.in_ok-put_sites.ensures in
    let w = rw (c.as_slice-3.ensures, c.new-walks.ensures) at c.in_ok-put_walks.ensures in
    let t = rw (c.as_slice-4.ensures, c.new-clauses.ensures) at c.in_ok-put_clauses.ensures in
    let m = rw (c.as_slice.ensures, c.in_ok-add_words.ensures, c.known_methods.ensures, c.new-methods.ensures) at c.in_ok-add_classes.ensures in
    told c.args.program.now _ s w t m refl
