use Rattle.exports.proofs.items.date.Goals as goal

pub returns-in-NoDate : goal.returns-in-NoDate
returns-in-NoDate c = rw c.in-NoDate.is c.valued.ensures

pub returns-in-Unused : goal.returns-in-Unused
returns-in-Unused c = rw c.in-Unused.is c.valued-in-Unused.ensures

pub returns-in-Day : goal.returns-in-Day
returns-in-Day c = rw c.in-Day.is c.day.ensures
