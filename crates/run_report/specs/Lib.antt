-- what is counted of a superstep while a job runs
pub mod Tally
-- what is reported of a run, as JSON data
pub mod Json
-- what a panel of a chart shows
pub mod Measures
-- numbers on an axis
pub mod Scale
-- words in XML
pub mod Words
