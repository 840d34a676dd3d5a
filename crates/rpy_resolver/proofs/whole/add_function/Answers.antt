use Rattle.rpy_resolver.proofs.Forms.{on_map}
use Rattle.rpy_resolver.proofs.Sources.{from_pushed}
use Rattle.std.proofs.Common.{ap, arith}
use Rattle.resolver_names.specs.Nodes.{block_nodes}
use Rattle.rpy_resolver.proofs.whole.add_function.Goals as goal

pub returns-clause-from : goal.returns-clause-from
returns-clause-from c = on_map c.push.result (λ is done h. from_pushed c.args.functions.now c.push.new.self done _ (c.args.names.now.first, c.args.f.now) is h (λ k. let b = ap (block_nodes k c.args.names.now.first) c.as_slice-3.ensures in let g = c.in_ok-resolve_block.ensures.nodes k in omega (arith, b, g))) c.push.ensures.ok
