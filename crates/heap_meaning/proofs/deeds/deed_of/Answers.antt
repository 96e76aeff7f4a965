-- Each kind of action is what its own function says.
use Rattle.heap_meaning.proofs.deeds.deed_of.Goals as goal

pub returns-in-Neg : goal.returns-in-Neg
returns-in-Neg c plain ws q next = rw c.in-Neg.is (c.neg.ensures c.args.choice.now c.args.heap.now ws q next)

pub returns-in-Arith : goal.returns-in-Arith
returns-in-Arith c plain ws q next = rw c.in-Arith.is (c.arith.ensures c.args.choice.now c.args.heap.now ws q next)

pub returns-in-Get : goal.returns-in-Get
returns-in-Get c plain ws q next = rw c.in-Get.is (c.get.ensures c.args.choice.now ws q next)

pub returns-in-Load : goal.returns-in-Load
returns-in-Load c plain ws q next = rw c.in-Load.is (c.load.ensures c.args.graph.now c.args.choice.now ws q next)

pub returns-in-At : goal.returns-in-At
returns-in-At c plain ws q next = rw c.in-At.is (c.at-in-At.ensures c.args.choice.now ws q next)

pub returns-in-New : goal.returns-in-New
returns-in-New c plain ws q next = rw c.in-New.is (c.new.ensures c.args.graph.now c.args.heap.now ws q next)

pub returns-in-Free : goal.returns-in-Free
returns-in-Free c plain ws q next = rw c.in-Free.is (c.free.ensures c.args.graph.now c.args.choice.now ws q next)

pub returns-in-Store : goal.returns-in-Store
returns-in-Store c plain ws q next = rw c.in-Store.is (c.store.ensures c.args.graph.now c.args.choice.now ws q next)

pub returns-in-Put : goal.returns-in-Put
returns-in-Put c plain ws q next = rw c.in-Put.is (c.put.ensures c.args.choice.now ws q next)

pub returns-in-PutAt : goal.returns-in-PutAt
returns-in-PutAt c plain ws q next = rw c.in-PutAt.is (c.put_at.ensures c.args.choice.now ws q next)
