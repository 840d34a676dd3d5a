use Rattle.lower_laws.proofs.Copied.{copy_is_done, drop_is_done, only_is_done, false_is_done, reached_is_done, up_is_done, down_is_done}
use Rattle.lower_laws.proofs.done.copies_are_done.Goals as goal

pub returns-clause-copy : goal.returns-clause-copy
returns-clause-copy c = copy_is_done

pub returns-clause-there : goal.returns-clause-there
returns-clause-there c = drop_is_done

pub returns-clause-missing : goal.returns-clause-missing
returns-clause-missing c = only_is_done

pub returns-clause-untrue : goal.returns-clause-untrue
returns-clause-untrue c = false_is_done

pub returns-clause-reached : goal.returns-clause-reached
returns-clause-reached c = reached_is_done

pub returns-clause-up : goal.returns-clause-up
returns-clause-up c = up_is_done

pub returns-clause-down : goal.returns-clause-down
returns-clause-down c = down_is_done
