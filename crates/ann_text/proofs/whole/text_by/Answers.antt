use Rattle.std.proofs.Common.{rules}
use Rattle.ann_text.proofs.Labelled.{wholly}
use Rattle.ann_text.proofs.whole.text_by.Goals as goal

pub returns : goal.returns
returns c =
    wholly c.args.labels.now c.args.program.now c.args.graphs.now c.args.annotation.now c.as_slice-3.result.now c.as_slice-4.result.now c.as_slice-5.result.now
    c.as_slice-sites.result.now c.as_slice-attributes.result.now c.new-text.result c.put_functions.new.text c.put_attributes.new.text c.put_lists.new.text
    c.put_dicts.new.text (search rules) (search rules) (search rules) (search rules) (search rules) (search rules) (search rules) (search rules) (search rules)
    (search rules)
