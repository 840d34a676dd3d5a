-- What is lowered only asks for more.
use Rattle.std.specs.Prelude.{List}
use Rattle.ll_code.specs.declared.program.LlBlock.{LlBlock}
use Rattle.rpy_meaning.specs.declared.row.Covers.{Covers}
use Rattle.rpy_meaning.specs.declared.row.RowOp.{RowOp}
use Rattle.rtyper_layout.specs.declared.layout.Layout.{Layout}
use Rattle.rtyper_data.specs.declared.found.Found.{Found}
use Rattle.rtyper_data.specs.declared.small.Keyed.{Keyed}
use Rattle.rtyper_data.specs.declared.small.Small.{Small}
use Rattle.rtyper_data.specs.Seen.{Around, Operand, Place, Writing}
use Rattle.rtyper_raising.specs.Raising.{raising_blocks}
use Rattle.rtyper_op.specs.Lowering.{lower_op}
use Rattle.rtyper_list.specs.Lowering.{lower_list_op}
use Rattle.rtyper_dict.specs.Graphs.{dict_graph}
use Rattle.rtyper_dict.specs.Lowering.{lower_dict_op}
use Rattle.rtyper_class.specs.Lowering.{lower_class_op}
use Rattle.rtyper_class.specs.Seen.{World}
use Rattle.rtyper_class.specs.Smalls.{class_graph}
use Rattle.growth_laws.specs.Growing.{Grows}

-- operations
abbrev pub OperationsOnlyAsk : Type 0
OperationsOnlyAsk = (around : Around) (o : RowOp) (place : Place) (args : List Operand) (w : Writing) → Grows w.found (lower_op around o place args w).found

abbrev pub ListsOnlyAsk : Type 0
ListsOnlyAsk = (around : Around) (o : RowOp) (place : Place) (args : List Operand) (w : Writing) → Grows w.found (lower_list_op around o place args w).found

abbrev pub DictsOnlyAsk : Type 0
DictsOnlyAsk = (around : Around) (o : RowOp) (place : Place) (args : List Operand) (w : Writing) → Grows w.found (lower_dict_op around o place args w).found

abbrev pub ClassesOnlyAsk : Type 0
ClassesOnlyAsk = (world : World) (o : RowOp) (place : Place) (args : List Operand) (w : Writing) → Grows w.found (lower_class_op world o place args w).found

-- graphs that are asked for
abbrev pub DictGraphsOnlyAsk : Type 0
DictGraphsOnlyAsk = (layout : Layout) (keyed : Keyed) (found : Found) → Grows found (dict_graph layout keyed found).1

abbrev pub ClassGraphsOnlyAsk : Type 0
ClassGraphsOnlyAsk = (world : World) (s : Small) (found : Found) → Grows found (class_graph world s found).1

abbrev pub RaisingOnlyAsks : Type 0
RaisingOnlyAsks = (covers : Covers) (blocks : List LlBlock) (found : Found) → Grows found (raising_blocks covers blocks found).1
