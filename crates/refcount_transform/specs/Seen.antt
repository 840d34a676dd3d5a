-- What the code's records of slices hold.
use Rattle.refcount_transform.specs.declared.plan.Plan.{Plan as Slices}
use Rattle.refcount_transform.specs.declared.changes.Around.{Around as Parts}
use Rattle.refcount_transform.specs.Plan.{Plan, plan_with}
use Rattle.refcount_transform.specs.Changes.{Around, around_of}

abbrev pub the_plan : Slices → Plan
the_plan plan = plan_with plan.structs.now plan.counted.now plan.counts.now plan.slots

abbrev pub the_graph : Parts → Around
the_graph around = around_of (the_plan around.plan) around.types.now
