mod DueRows
