use Rattle.dict_change_laws.proofs.Graphs.{lengths_are_reckoned, room_is_made, entries_are_added, entries_are_taken_out}
use Rattle.dict_change_laws.proofs.laws.graphs_change_dicts.Goals as goal

pub returns-clause-length : goal.returns-clause-length
returns-clause-length c = lengths_are_reckoned

pub returns-clause-room : goal.returns-clause-room
returns-clause-room c = room_is_made

pub returns-clause-added : goal.returns-clause-added
returns-clause-added c = entries_are_added

pub returns-clause-taken : goal.returns-clause-taken
returns-clause-taken c = entries_are_taken_out
