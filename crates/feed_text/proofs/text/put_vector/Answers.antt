use Rattle.feed_text.proofs.text.put_vector.Goals as goal

pub returns-in_ok-put_obj-in-NoInMemory : goal.returns-in_ok-put_obj-in-NoInMemory
returns-in_ok-put_obj-in-NoInMemory c = rw c.in-NoInMemory.is c.in_ok-put_obj-in-NoInMemory.ensures
