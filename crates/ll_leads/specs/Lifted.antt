-- States under which other calls wait.
use Rattle.std.specs.Prelude.{List, ◌++◌}
use Rattle.ll_code.specs.State.{Frame, State, Calling, At, Returning, Throwing, Next, Goes, Puts, Tells, Ends, Sticks}

abbrev pub over : List Frame → State → State
over below (Calling f values frames core) = Calling f values (frames ++ below) core
over below (At ops e frames core) = At ops e (frames ++ below) core
over below (Returning value frames core) = Returning value (frames ++ below) core
over below (Throwing value frames core) = Throwing value (frames ++ below) core

abbrev pub next_over : List Frame → Next → Next
next_over below (Goes t) = Goes (over below t)
next_over below (Puts byte t) = Puts byte (over below t)
next_over below (Tells event t) = Tells event (over below t)
next_over below (Ends outcome core) = Ends outcome core
next_over below (Sticks reason) = Sticks reason
