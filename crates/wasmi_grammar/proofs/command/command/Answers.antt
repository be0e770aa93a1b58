use Rattle.wasmi_grammar.proofs.Common.{with_memory, NamesAfter}
use Rattle.wasmi_grammar.proofs.command.command.Goals as goal

pub returns-in-fuel : goal.returns-in-fuel
returns-in-fuel c = with_memory c.values_call.result (NamesAfter c.args.name.now c.args.operands.now) c.values_call.ensures.call

pub returns-in-memory : goal.returns-in-memory
returns-in-memory c = with_memory c.memory_call.result (NamesAfter c.args.name.now c.args.operands.now) c.memory_call.ensures.call

pub returns-in-write : goal.returns-in-write
returns-in-write c = rw c.in-write.is c.write.ensures

pub returns-in-segment : goal.returns-in-segment
returns-in-segment c = rw c.in-segment.is c.new_segment.ensures

pub returns-in-data : goal.returns-in-data
returns-in-data c = rw c.in-data.is c.new_data.ensures

pub returns-in-load : goal.returns-in-load
returns-in-load c = with_memory c.access_call.result (NamesAfter c.args.name.now c.args.operands.now) c.access_call.ensures.call

pub returns-in-table : goal.returns-in-table
returns-in-table c = with_memory c.table_call.result (NamesAfter c.args.name.now c.args.operands.now) c.table_call.ensures.call

pub returns-in-make : goal.returns-in-make
returns-in-make c = with_memory c.vector_call.result (NamesAfter c.args.name.now c.args.operands.now) c.vector_call.ensures.call
