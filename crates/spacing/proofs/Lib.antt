-- The worked examples, and the chart of spaces as a table. Assumes nothing.
mod Examples
mod Chart
