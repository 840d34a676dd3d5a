use Rattle.rpy_edge.proofs.edge.line_of.Goals as goal

pub returns-in-NoFile : goal.returns-in-NoFile
returns-in-NoFile c = rw c.in-NoFile.is c.joined.ensures

pub returns-in-NotRead : goal.returns-in-NotRead
returns-in-NotRead c = rw c.in-NotRead.is c.joined-in-NotRead.ensures

pub returns-in-TooLong : goal.returns-in-TooLong
returns-in-TooLong c = rw c.in-TooLong.is c.joined-in-TooLong.ensures
